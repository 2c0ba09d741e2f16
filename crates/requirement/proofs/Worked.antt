-- The worked cases, by computing.
use Rattle.std.proofs.Common.{◌≡◌, ℕ, List, [], Ok, Err, codes, Result, refl, inl, inr}
use Rattle.syntax.specs.declared.kinds.Fault.{Fault}
use Rattle.syntax.specs.Bytes.{gap}
use Rattle.syntax.specs.Value.{Value, object, end}
use Rattle.syntax.specs.Machine.{run}
use Rattle.syntax.specs.Reading.{reading}
use Rattle.syntax.proofs.Stands as text_laws
use Rattle.requirement.specs.More.{OneMoreCondition, MoreProfile, bare, objects, single}
use Rattle.requirement.specs.Examples.{Examples}

-- the value that is read, if one is
abbrev value_in : Result Value Fault → Value
value_in (Ok v) = v
value_in (Err f) = object 0 0 end

-- two texts that are read
one_more : (s t : List ℕ) (v w : Value) → reading s ≡ Ok v → reading t ≡ Ok w → MoreProfile (bare v) (bare w) → OneMoreCondition s t
one_more s t v w e f h = record { old = v; new = w; before = ((text_laws.accepts s v).1 e).text; after = ((text_laws.accepts t w).1 f).text; more = h }

abbrev before : List ℕ
before = codes "{\"Resources\":{\"A\":{\"PropertyRequirements\":{\"M\":{\"Purpose\":1}}}}}"

abbrev after : List ℕ
after = codes "{\"Resources\": {\"A\":{\"PropertyRequirements\":{\"M\":{\"ConditionalRequirements\":[{\"CompareProperty\":\"P\",\"CompareType\":\"Present\"}],\"Purpose\":1}}}}}"

one_more_array : OneMoreCondition before after
unfolding run reading gap
one_more_array = one_more before after (value_in (reading before)) (value_in (reading after)) refl refl (objects (record {
  front = [];
  old = _;
  new = _;
  back = [];
  before = refl;
  after = refl;
  first = refl;
  named = refl;
  how = record {
    at = refl;
    name = refl;
    value = objects (record {
      front = [];
      old = _;
      new = _;
      back = [];
      before = refl;
      after = refl;
      how = record {
        at = refl;
        name = refl;
        value = objects (record {
          front = [];
          old = _;
          new = _;
          back = [];
          before = refl;
          after = refl;
          first = refl;
          named = refl;
          how = record {
            at = refl;
            name = refl;
            value = objects (record {
              front = [];
              old = _;
              new = _;
              back = [];
              before = refl;
              after = refl;
              how = record {
                at = refl;
                name = refl;
                value = objects (inl (inr (record {
                  front = [];
                  new = _;
                  back = _;
                  before = refl;
                  after = refl;
                  first = refl;
                  named = refl;
                  how = single;
                })));
              };
            });
          };
        });
      };
    });
  };
}))

pub examples : Examples
unfolding run reading gap
examples = record {
  no_clauses = refl;
  presence = refl;
  version = refl;
  property = refl;
  nested = refl;
  skipped = refl;
  one_more = one_more_array;
  no_text = refl;
  no_object = refl;
  gap = refl;
  unnamed = refl;
  slash = refl;
  no_comparison = refl;
  no_test = refl;
}

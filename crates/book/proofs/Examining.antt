-- What is listed of a book, from what is read of its text and told of its members.
use Rattle.std.proofs.Common.{◌≡◌, ℕ, ◌+◌, true, false, leb, List, map, length, Some, None, Ok, Err, sym, refl, ap, ◌∙◌, arith}
use Rattle.std.proofs.lemmas.Bool.{cond-true, cond-false, leb-true}
use Rattle.syntax.specs.declared.kinds.Fault.{Fault}
use Rattle.syntax.specs.Value.{Value, Members, literal, number, string, array, object}
use Rattle.syntax.specs.Contents.{fields}
use Rattle.syntax.specs.Reading.{reading}
use Rattle.syntax.specs.Walking.{Member, listed}
use Rattle.syntax.proofs.Sound.{accepted}
use Rattle.syntax.proofs.Walks.{walks}
use Rattle.book.specs.declared.refusal.BookRefusal.TheVariants.{Text, NoObject, TooMany, UnlawfulPath}
use Rattle.book.specs.Listing.{most, pair, unlawful, all_named, of_members, of_value, of_text, listing, members_of}
use Rattle.book.specs.Rows.{Begins}

module _ (s : List ℕ) where
  -- a text that is none
  pub no_text : (f : Fault) → Err f ≡ reading s → listing s ≡ Err (Text f)
  unfolding listing
  no_text f e = ap (of_text s) (sym e)

  -- a value that is no object
  not_object : (v : Value) → fields v ≡ None → of_value s v ≡ Err NoObject
  not_object (literal i j w) e = refl
  not_object (number i j n) e = refl
  not_object (string i j n) e = refl
  not_object (array i j vs) e = refl
  not_object (object i j ms) e = cc

  pub no_object : (v : Value) → Ok v ≡ reading s → fields v ≡ None → listing s ≡ Err NoObject
  unfolding listing
  no_object v e d = ap (of_text s) (sym e) ∙ not_object v d

  -- an object that was read
  module _ (v : Value) (e : Ok v ≡ reading s) (ms : List Member) (d : fields v ≡ Some ms) where
    is_object : (w : Value) → fields w ≡ Some ms → (i : ℕ) × (j : ℕ) × (os : Members) × (w ≡ object i j os) × (listed os ≡ ms)
    is_object (literal i j w) h = let z : ◌≡◌ {A = ℕ} 0 1 = cc in absurd (omega arith)
    is_object (number i j n) h = let z : ◌≡◌ {A = ℕ} 0 1 = cc in absurd (omega arith)
    is_object (string i j n) h = let z : ◌≡◌ {A = ℕ} 0 1 = cc in absurd (omega arith)
    is_object (array i j vs) h = let z : ◌≡◌ {A = ℕ} 0 1 = cc in absurd (omega arith)
    is_object (object i j os) h = (i, j, os, refl, cc)

    the_object : (i : ℕ) × (j : ℕ) × (os : Members) × (reading s ≡ Ok (object i j os)) × (listed os ≡ ms)
    the_object = let p = is_object v d in (p.0, p.1, p.2, sym e ∙ ap Ok p.3, p.4)

    lists : listing s ≡ of_members s ms
    unfolding listing
    lists = let p = the_object in ap (of_text s) p.3 ∙ ap (of_members s) p.4

    pub too_many : false ≡ leb (length ms) most → listing s ≡ Err TooMany
    too_many n = lists ∙ cond-false (leb (length ms) most) _ (Err TooMany) (sym n)

    module _ (n : true ≡ leb (length ms) most) where
      few_named : listing s ≡ all_named (map (pair s) ms) (unlawful ms)
      few_named = lists ∙ cond-true (leb (length ms) most) _ (Err TooMany) (sym n)

      pub badly_named : (q : ℕ) → Some q ≡ unlawful ms → listing s ≡ Err (UnlawfulPath q)
      badly_named q u = few_named ∙ ap (all_named (map (pair s) ms)) (sym u)

      pub begins : None ≡ unlawful ms → Begins s ms
      begins u =
          let p = the_object in
          record {
            short = (accepted s (object p.0 p.1 p.2) p.3).0;
            few = leb-true (length ms) most (sym n);
            place = p.0 + 1;
            come = sym p.4 ∙ (walks s).members 0 p.0 p.1 p.2 ((walks s).outermost (object p.0 p.1 p.2) p.3);
            members = ap members_of p.3 ∙ p.4;
            lists = few_named ∙ ap (all_named (map (pair s) ms)) (sym u);
          }

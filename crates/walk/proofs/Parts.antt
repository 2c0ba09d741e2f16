-- What is told of a member by its parts, and of the bytes of a part.
use Rattle.std.proofs.Common.{◌≡◌, ℕ, ◌+◌, ◌-◌, ◌≤◌, List, [], take, drop, Some, None, Option, sym, refl, ap, ◌∙◌, arith}
use Rattle.std.specs.Option.{option_map}
use Rattle.syntax.specs.declared.kinds.Literal as l
use Rattle.syntax.specs.declared.kinds.Kind.TheVariants.{String}
use Rattle.syntax.specs.Value.{Value, literal, number, string, array, object, from, to}
use Rattle.syntax.specs.Reading.{value_at}
use Rattle.syntax.specs.Contents.{text}
use Rattle.syntax.specs.Walking as w
use Rattle.syntax.specs.Walking.{after_comma, member_step, member_of, member_at}
use Rattle.syntax.proofs.Walks.{string_end, string_bytes, number_bytes}
use Rattle.text.specs.declared.part.Part.{Part}
use Rattle.text.specs.Part.{kind_of, part_of}
use Rattle.walk.specs.declared.found.Member.{Member}
use Rattle.walk.specs.Told.{behind, name_told, member_told, letters_of, digits_of, Says, Writes}
use Rattle.walk.proofs.Values.{no_text, unnamed, stands}

-- a value that is told to be a string is one
is_string : (v : Value) → kind_of v ≡ String → (n : List ℕ) × (v ≡ string (from v) (to v) n)
is_string (literal i j l.TheVariants.Null) k = cc
is_string (literal i j l.TheVariants.False) k = cc
is_string (literal i j l.TheVariants.True) k = cc
is_string (number i j n) k = cc
is_string (string i j n) k = (n, refl)
is_string (array i j vs) k = cc
is_string (object i j ms) k = cc

module _ (s : List ℕ) (i : ℕ) where
  -- no value
  pub member_none : None ≡ value_at s i → None ≡ option_map member_told (member_at s i)
  member_none e = ap (λ o. option_map member_told (member_of s o)) e

  module _ (v : Value) (e : Some v ≡ value_at s i) where
    -- no string
    pub member_other : (kind_of v ≡ String → ⊥) → None ≡ option_map member_told (member_at s i)
    member_other k = sym (ap (option_map member_told) (ap (member_of s) (sym e) ∙ unnamed s i v (no_text v (part_of v) refl k)))

    module _ (k : kind_of v ≡ String) where
      -- a string, and what stands behind its colon decides
      colon : (o : Option Value) → o ≡ behind s (to v) → (n : List ℕ) × (v ≡ string (from v) (to v) n) × (member_at s i ≡ option_map (member_step s (from v) n) o)
      colon o h = let p = is_string v k in (p.0, p.1, stands s i v e p.0 (ap text p.1) ∙ ap (option_map (member_step s (from v) p.0)) (sym h))

      -- no value there
      pub member_bare : None ≡ behind s (to v) → None ≡ option_map member_told (member_at s i)
      member_bare h = sym (ap (option_map member_told) (colon None h).2)

      pub member_whole : (u : Value) → Some u ≡ behind s (to v) → Some (record { name = part_of v; value = part_of u; next = after_comma s (to u) }) ≡ option_map member_told (member_at s i)
      member_whole u h =
          let p = colon (Some u) h in
          let m : w.Member = record { at = from v; name = p.0; value = u } in
          let c : part_of v ≡ name_told m = ap part_of p.1 ∙ ap (λ j. part (from v) j) (string_end s i (from v) (to v) p.0 (sym e ∙ ap Some p.1)) in
          ap (λ t. Some (told t u)) c ∙ sym (ap (option_map member_told) p.2)
        where
          part : ℕ → ℕ → Part
          part a b = record { kind = String; start = a; end = b }

          told : Part → Value → Member
          told t x = record { name = t; value = part_of x; next = after_comma s (to x) }

-- nothing stands between places that are out of order
pub no_letters : (s : List ℕ) (t : Part) → t.end ≤ t.start → [] ≡ letters_of s t
no_letters s t h = let e : t.end - 1 - (t.start + 1) ≡ 0 = omega arith in sym (ap (λ k. take k (drop (t.start + 1) s)) e)

-- the bytes of a string or a number that was read
pub says : (s l : List ℕ) (t : Part) → l ≡ letters_of s t → Says s t l
says s l t d i n e = d ∙ sym (string_bytes s i t.start t.end n e)

pub writes : (s l : List ℕ) (t : Part) → l ≡ digits_of s t → Writes s t l
writes s l t d i n e = d ∙ sym (number_bytes s i t.start t.end n e)

-- What stands at a place, from what is told of it.
use Rattle.std.proofs.Common.{◌≡◌, ℕ, ◌+◌, ◌-◌, ◌<◌, ◌≤◌, Bool, true, false, cond, List, [], ◌∷◌, length, take, drop, Some, None, Ok, Err, Option, Result, unwrap_or, sym, refl, ap, ◌∙◌, arith}
use Rattle.std.specs.Option.{option_map}
use Rattle.std.specs.List.{between}
use Rattle.syntax.specs.declared.kinds.Literal as l
use Rattle.syntax.specs.declared.kinds.Kind.{Kind}
use Rattle.syntax.specs.declared.kinds.Kind.TheVariants as k
use Rattle.syntax.specs.declared.kinds.Fault.{Fault}
use Rattle.syntax.specs.Bytes.{gap}
use Rattle.syntax.specs.Value.{Value, literal, number, string, array, object, from, to}
use Rattle.syntax.specs.Reading.{reading, value_at}
use Rattle.syntax.specs.Contents.{text, numeral, elements, fields, whole_number}
use Rattle.syntax.specs.Walking as w
use Rattle.syntax.specs.Walking.{member_at, items_from, members_from, rest_items, rest_members, whole}
use Rattle.syntax.proofs.Walks.{walks, read_place, string_bytes, number_bytes, items_none, items_more, members_none, members_more}
use Rattle.text.specs.declared.part.Part.{Part}
use Rattle.text.specs.Part.{part_of, part_at, part_read}
use Rattle.walk.specs.Here.{value_here}
use Rattle.walk.specs.Told.{behind}

abbrev unread : ℕ → Value
unread i = number i i []

-- the value that is read at a place is the value there
pub here_some : (s : List ℕ) (i : ℕ) (v : Value) → value_at s i ≡ Some v → value_here s i ≡ v
unfolding value_here
here_some s i v e = ap (λ o. unwrap_or o (unread i)) e

pub here_none : (s : List ℕ) (i : ℕ) → value_at s i ≡ None → value_here s i ≡ unread i
unfolding value_here
here_none s i e = ap (λ o. unwrap_or o (unread i)) e

-- a value that was read is read again where it begins
pub here_again : (s : List ℕ) (i : ℕ) (v : Value) → value_at s i ≡ Some v → value_here s (from v) ≡ v
here_again s i v e = here_some s (from v) v ((walks s).again i v e)

pub told_again : (s : List ℕ) (i : ℕ) (t : Part) → Some t ≡ part_at (value_at s i) → t ≡ part_of (value_here s t.start)
told_again s i t = by (value_at s i) refl
  where
    by : (o : Option Value) → value_at s i ≡ o → Some t ≡ part_at o → t ≡ part_of (value_here s t.start)
    by None e d = cc
    by (Some v) e d = let c : t ≡ part_of v = cc in c ∙ sym (ap part_of (ap (λ x. value_here s x.start) c ∙ here_again s i v e))

pub spelled_again : (s : List ℕ) (i : ℕ) (t : Part) → Some t ≡ part_at (value_at s i) → Some (value_here s t.start) ≡ value_at s i
spelled_again s i t = by (value_at s i) refl
  where
    by : (o : Option Value) → value_at s i ≡ o → Some t ≡ part_at o → Some (value_here s t.start) ≡ o
    by None e d = cc
    by (Some v) e d = let c : t ≡ part_of v = cc in ap Some (ap (λ x. value_here s x.start) c ∙ here_again s i v e)

-- a whole text's value is the value at the place 0
pub told_whole : (s : List ℕ) (t : Part) → Ok t ≡ part_read (reading s) → t ≡ part_of (value_here s t.start)
told_whole s t = by (reading s) refl
  where
    by : (o : Result Value Fault) → reading s ≡ o → Ok t ≡ part_read o → t ≡ part_of (value_here s t.start)
    by (Err f) e d = cc
    by (Ok v) e d = let c : t ≡ part_of v = cc in told_again s 0 t (ap Some c ∙ sym (ap part_at ((walks s).outermost v e)))

pub spelled_whole : (s : List ℕ) (t : Part) → Ok t ≡ part_read (reading s) → Ok (value_here s t.start) ≡ reading s
spelled_whole s t = by (reading s) refl
  where
    by : (o : Result Value Fault) → reading s ≡ o → Ok t ≡ part_read o → Ok (value_here s t.start) ≡ o
    by (Err f) e d = cc
    by (Ok v) e d = let c : t ≡ part_of v = cc in ap Ok (ap (λ x. value_here s x.start) c ∙ here_again s 0 v ((walks s).outermost v e))

module _ (s : List ℕ) (i : ℕ) where
  -- where no value is read, a number without digits is taken
  pub told_none : None ≡ value_at s i → record { kind = k.Number; start = i; end = i } ≡ part_of (value_here s i)
  told_none e = sym (ap part_of (here_none s i (sym e)))

  pub here_read : (v : Value) → Some v ≡ value_at s i → v ≡ value_here s i
  here_read v e = sym (here_some s i v (sym e))

  -- a value of some kind but a number was read
  read_other : (v : Value) → value_here s i ≡ v → ((part_of v).kind ≡ k.Number → ⊥) → value_at s i ≡ Some v
  read_other v = by (value_at s i) refl
    where
      by : (o : Option Value) → value_at s i ≡ o → value_here s i ≡ v → ((part_of v).kind ≡ k.Number → ⊥) → o ≡ Some v
      by None e d h = absurd (h (ap (λ x. (part_of x).kind) (sym d ∙ here_none s i e)))
      by (Some x) e d h = ap Some (sym (here_some s i x e) ∙ d)

-- A value by the kind that is told of it.
module _ (s : List ℕ) (t : Part) (e : t ≡ part_of (value_here s t.start)) where
  kind_is : (v : Value) → value_here s t.start ≡ v → (c : Kind) → t.kind ≡ c → (part_of v).kind ≡ c
  kind_is v d c h = sym (ap (λ x. x.kind) (e ∙ ap part_of d)) ∙ h

  -- a string has the bytes between its quotes
  pub string_within : t.kind ≡ k.String → (1 ≤ t.end) × (t.start < length s)
  string_within h = by (value_here s t.start) refl (kind_is (value_here s t.start) refl k.String h)
    where
      by : (v : Value) → value_here s t.start ≡ v → (part_of v).kind ≡ k.String → (1 ≤ t.end) × (t.start < length s)
      by (literal p j l.TheVariants.Null) d c = let z : ◌≡◌ {A = ℕ} 0 1 = cc in absurd (omega arith)
      by (literal p j l.TheVariants.False) d c = let z : ◌≡◌ {A = ℕ} 0 1 = cc in absurd (omega arith)
      by (literal p j l.TheVariants.True) d c = let z : ◌≡◌ {A = ℕ} 0 1 = cc in absurd (omega arith)
      by (number p j n) d c = let z : ◌≡◌ {A = ℕ} 0 1 = cc in absurd (omega arith)
      by (string p j n) d c =
          let r = read_other s t.start (string p j n) d (λ z. let y : ◌≡◌ {A = ℕ} 0 1 = cc in omega arith) in
          let q : t.start ≡ p = ap (λ x. x.start) (e ∙ ap part_of d) in
          let u : t.end ≡ j = ap (λ x. x.end) (e ∙ ap part_of d) in
          let w = read_place s t.start (string p j n) r in
          (omega (arith, w), omega (arith, w))
      by (array p j vs) d c = let z : ◌≡◌ {A = ℕ} 0 1 = cc in absurd (omega arith)
      by (object p j ms) d c = let z : ◌≡◌ {A = ℕ} 0 1 = cc in absurd (omega arith)

  pub string_text : t.kind ≡ k.String → text (value_here s t.start) ≡ Some (between (t.start + 1) (t.end - 1) s)
  string_text h = by (value_here s t.start) refl (kind_is (value_here s t.start) refl k.String h)
    where
      by : (v : Value) → value_here s t.start ≡ v → (part_of v).kind ≡ k.String → text v ≡ Some (between (t.start + 1) (t.end - 1) s)
      by (literal p j l.TheVariants.Null) d c = cc
      by (literal p j l.TheVariants.False) d c = cc
      by (literal p j l.TheVariants.True) d c = cc
      by (number p j n) d c = cc
      by (string p j n) d c =
          let r = read_other s t.start (string p j n) d (λ z. let y : ◌≡◌ {A = ℕ} 0 1 = cc in omega arith) in
          ap Some (string_bytes s t.start p j n r ∙ sym (ap (λ x. between (x.start + 1) (x.end - 1) s) (e ∙ ap part_of d)))
      by (array p j vs) d c = cc
      by (object p j ms) d c = cc

  -- a number has its bytes
  pub number_digits : t.kind ≡ k.Number → numeral (value_here s t.start) ≡ Some (between t.start t.end s)
  number_digits h = by (value_at s t.start) refl
    where
      form : (v : Value) → value_at s t.start ≡ Some v → value_here s t.start ≡ v → (part_of v).kind ≡ k.Number → numeral v ≡ Some (between t.start t.end s)
      form (literal p j l.TheVariants.Null) r d c = cc
      form (literal p j l.TheVariants.False) r d c = cc
      form (literal p j l.TheVariants.True) r d c = cc
      form (number p j n) r d c =
          let q : t ≡ part_of (number p j n) = e ∙ ap part_of d in
          ap Some (number_bytes s t.start p j n r) ∙ sym (ap (λ x. Some (between x.start x.end s)) q)
      form (string p j n) r d c = cc
      form (array p j vs) r d c = cc
      form (object p j ms) r d c = cc

      empty : (n : ℕ) → [] ≡ between n n s
      empty n = let z : n - n ≡ 0 = omega arith in sym (ap (λ m. take m (drop n s)) z)

      by : (o : Option Value) → value_at s t.start ≡ o → numeral (value_here s t.start) ≡ Some (between t.start t.end s)
      by None r =
          let d = here_none s t.start r in
          let q : t.end ≡ t.start = ap (λ x. x.end) (e ∙ ap part_of d) in
          ap numeral d ∙ ap Some (empty t.start) ∙ sym (ap (λ x. Some (between t.start x s)) q)
      by (Some v) r = let d = here_some s t.start v r in ap numeral d ∙ form v r d (kind_is v d k.Number h)

  -- an array's items, and an object's members, come from the next place on
  pub array_items : t.kind ≡ k.Array → (elements (value_here s t.start) ≡ Some (items_from s (t.start + 1))) × (t.start < length s)
  array_items h = by (value_here s t.start) refl (kind_is (value_here s t.start) refl k.Array h)
    where
      by : (v : Value) → value_here s t.start ≡ v → (part_of v).kind ≡ k.Array → (elements v ≡ Some (items_from s (t.start + 1))) × (t.start < length s)
      by (literal p j l.TheVariants.Null) d c = let z : ◌≡◌ {A = ℕ} 0 1 = cc in absurd (omega arith)
      by (literal p j l.TheVariants.False) d c = let z : ◌≡◌ {A = ℕ} 0 1 = cc in absurd (omega arith)
      by (literal p j l.TheVariants.True) d c = let z : ◌≡◌ {A = ℕ} 0 1 = cc in absurd (omega arith)
      by (number p j n) d c = let z : ◌≡◌ {A = ℕ} 0 1 = cc in absurd (omega arith)
      by (string p j n) d c = let z : ◌≡◌ {A = ℕ} 0 1 = cc in absurd (omega arith)
      by (array p j vs) d c =
          let r = read_other s t.start (array p j vs) d (λ z. let y : ◌≡◌ {A = ℕ} 0 1 = cc in omega arith) in
          let q : t.start ≡ p = ap (λ x. x.start) (e ∙ ap part_of d) in
          (ap Some ((walks s).items t.start p j vs r ∙ ap (λ x. items_from s (x + 1)) (sym q)), omega (arith, read_place s t.start (array p j vs) r))
      by (object p j ms) d c = let z : ◌≡◌ {A = ℕ} 0 1 = cc in absurd (omega arith)

  pub object_members : t.kind ≡ k.Object → (fields (value_here s t.start) ≡ Some (members_from s (t.start + 1))) × (t.start < length s)
  object_members h = by (value_here s t.start) refl (kind_is (value_here s t.start) refl k.Object h)
    where
      by : (v : Value) → value_here s t.start ≡ v → (part_of v).kind ≡ k.Object → (fields v ≡ Some (members_from s (t.start + 1))) × (t.start < length s)
      by (literal p j l.TheVariants.Null) d c = let z : ◌≡◌ {A = ℕ} 0 1 = cc in absurd (omega arith)
      by (literal p j l.TheVariants.False) d c = let z : ◌≡◌ {A = ℕ} 0 1 = cc in absurd (omega arith)
      by (literal p j l.TheVariants.True) d c = let z : ◌≡◌ {A = ℕ} 0 1 = cc in absurd (omega arith)
      by (number p j n) d c = let z : ◌≡◌ {A = ℕ} 0 1 = cc in absurd (omega arith)
      by (string p j n) d c = let z : ◌≡◌ {A = ℕ} 0 1 = cc in absurd (omega arith)
      by (array p j vs) d c = let z : ◌≡◌ {A = ℕ} 0 1 = cc in absurd (omega arith)
      by (object p j ms) d c =
          let r = read_other s t.start (object p j ms) d (λ z. let y : ◌≡◌ {A = ℕ} 0 1 = cc in omega arith) in
          let q : t.start ≡ p = ap (λ x. x.start) (e ∙ ap part_of d) in
          (ap Some ((walks s).members t.start p j ms r ∙ ap (λ x. members_from s (x + 1)) (sym q)), omega (arith, read_place s t.start (object p j ms) r))

-- a value of another kind reads as nothing
pub no_text : (v : Value) (t : Part) → t ≡ part_of v → (t.kind ≡ k.String → ⊥) → text v ≡ None
no_text (literal p j w) t e h = refl
no_text (number p j n) t e h = refl
no_text (string p j n) t e h = absurd (h (ap (λ x. x.kind) e))
no_text (array p j vs) t e h = refl
no_text (object p j ms) t e h = refl

pub no_numeral : (v : Value) (t : Part) → t ≡ part_of v → (t.kind ≡ k.Number → ⊥) → numeral v ≡ None
no_numeral (literal p j w) t e h = refl
no_numeral (number p j n) t e h = absurd (h (ap (λ x. x.kind) e))
no_numeral (string p j n) t e h = refl
no_numeral (array p j vs) t e h = refl
no_numeral (object p j ms) t e h = refl

-- a whole number is what its bytes write
pub whole_numeral : (v : Value) (n : List ℕ) → numeral v ≡ Some n → whole n ≡ whole_number v
whole_numeral (literal p j w) n e = cc
whole_numeral (number p j m) n e = let d : m ≡ n = cc in sym (ap whole d)
whole_numeral (string p j m) n e = cc
whole_numeral (array p j vs) n e = cc
whole_numeral (object p j ms) n e = cc

pub no_whole : (v : Value) → numeral v ≡ None → None ≡ whole_number v
no_whole (literal p j w) e = refl
no_whole (number p j n) e = cc
no_whole (string p j n) e = refl
no_whole (array p j vs) e = refl
no_whole (object p j ms) e = refl

pub no_elements : (v : Value) (t : Part) → t ≡ part_of v → (t.kind ≡ k.Array → ⊥) → elements v ≡ None
no_elements (literal p j w) t e h = refl
no_elements (number p j n) t e h = refl
no_elements (string p j n) t e h = refl
no_elements (array p j vs) t e h = absurd (h (ap (λ x. x.kind) e))
no_elements (object p j ms) t e h = refl

pub no_fields : (v : Value) (t : Part) → t ≡ part_of v → (t.kind ≡ k.Object → ⊥) → fields v ≡ None
no_fields (literal p j w) t e h = refl
no_fields (number p j n) t e h = refl
no_fields (string p j n) t e h = refl
no_fields (array p j vs) t e h = refl
no_fields (object p j ms) t e h = absurd (h (ap (λ x. x.kind) e))

-- The first item, or member, and those behind it.
module _ (s : List ℕ) (i : ℕ) where
  pub no_items : None ≡ value_at s i → items_from s i ≡ []
  no_items e = items_none s i (ap (option_map (w.item_step s)) (sym e))

  pub first_item : (v : Value) → Some v ≡ value_at s i → items_from s i ≡ v ∷ rest_items s (w.after_comma s (to v))
  first_item v e = items_more s i (w.item_step s v) (ap (option_map (w.item_step s)) (sym e))

  pub no_members : None ≡ value_at s i → members_from s i ≡ []
  no_members e = members_none s i (ap (w.member_of s) (sym e))

  -- what is no string is no member's name
  pub unnamed : (v : Value) → text v ≡ None → w.member_of s (Some v) ≡ None
  unnamed (literal p j x) e = refl
  unnamed (number p j n) e = refl
  unnamed (string p j n) e = cc
  unnamed (array p j vs) e = refl
  unnamed (object p j ms) e = refl

  pub other_members : (v : Value) → Some v ≡ value_at s i → text v ≡ None → members_from s i ≡ []
  other_members v e d = members_none s i (ap (w.member_of s) (sym e) ∙ unnamed v d)

  -- a string, and what comes behind its colon
  by_colon : (b : Bool) (q : ℕ) (n : List ℕ) (o : Option Value) → cond b (option_map (w.member_step s q n) o) None ≡ option_map (w.member_step s q n) (cond b o None)
  by_colon true q n o = refl
  by_colon false q n o = refl

  pub named : (v : Value) (n : List ℕ) → text v ≡ Some n → w.member_of s (Some v) ≡ option_map (w.member_step s (from v) n) (behind s (to v))
  named (literal p j x) n e = cc
  named (number p j m) n e = cc
  named (string p j m) n e =
      let d : m ≡ n = cc in
      ap (λ x. w.named s p j x) d ∙ by_colon (w.byte_is s (gap s j) 58) p n (value_at s (gap s j + 1))
  named (array p j vs) n e = cc
  named (object p j ms) n e = cc

  module _ (v : Value) (e : Some v ≡ value_at s i) (n : List ℕ) (d : text v ≡ Some n) where
    pub stands : member_at s i ≡ option_map (w.member_step s (from v) n) (behind s (to v))
    stands = ap (w.member_of s) (sym e) ∙ named v n d

    pub bare_members : None ≡ behind s (to v) → members_from s i ≡ []
    bare_members h = members_none s i (stands ∙ ap (option_map (w.member_step s (from v) n)) (sym h))

    pub first_member : (u : Value) → Some u ≡ behind s (to v) → members_from s i ≡ record { at = from v; name = n; value = u } ∷ rest_members s (w.after_comma s (to u))
    first_member u h = members_more s i (w.member_step s (from v) n u) (stands ∙ ap (option_map (w.member_step s (from v) n)) (sym h))

-- The parts of a record, and which rule it breaks first.
use Rattle.std.proofs.Common.{◌≡◌, ℕ, ◌+◌, ◌-◌, ◌<◌, ◌≤◌, Bool, true, false, cond, ltb, nat_lt, List, ◌∷◌, length, take, drop, Some, None, Option, refl, sym, ap, ◌∙◌, ⊎_elim, arith, length-drop, one-add}
use Rattle.std.proofs.lemmas.List.{drop-drop, length-take-le}
use Rattle.std.proofs.lemmas.Bool.{cond-true, cond-false, lt-ltb, le-ltb, ltb-false, cases_lt}
use Rattle.store.specs.Pairs.{Pair}
use Rattle.store.specs.Paths.{lawful_path}
use Rattle.bundle.specs.declared.rules.Rule.{Rule}
use Rattle.bundle.specs.declared.rules.Rule.TheVariants.{CutShort, UnlawfulPath, RepeatedPath, LongBody}
use Rattle.bundle.specs.Layout.{four, path_size, path_of, behind_path, body_size, body_of, extent, path_fault, body_fault, met, or_else, fault}
use Rattle.bundle.specs.Rows.{body_after, behind_body, body_fault_after}

pub length_behind : (r : List ℕ) → length (behind_path r) ≡ length r - (1 + path_size r)
unfolding behind_path
length_behind r = length-drop (1 + path_size r) r

-- the path runs out
pub path_cut : (r : List ℕ) → length r < 1 + path_size r → path_fault r ≡ Some CutShort
unfolding path_fault
path_cut r h = cond-true _ _ _ (lt-ltb _ _ h)

-- it is whole, and unlawful
pub path_unlawful : (r : List ℕ) → 1 + path_size r ≤ length r → lawful_path (path_of r) ≡ false → path_fault r ≡ Some UnlawfulPath
unfolding path_fault
path_unlawful r h e = cond-false _ _ _ (le-ltb _ _ h) ∙ cond-false _ _ _ e

-- it is whole, and lawful
pub path_fine : (r : List ℕ) → 1 + path_size r ≤ length r → lawful_path (path_of r) ≡ true → path_fault r ≡ None
unfolding path_fault
path_fine r h e = cond-false _ _ _ (le-ltb _ _ h) ∙ cond-true _ _ _ e

-- the body's length runs out
pub size_cut : (r : List ℕ) → length (behind_path r) < 4 → body_fault r ≡ Some CutShort
unfolding body_fault
size_cut r h = cond-true _ _ _ (lt-ltb _ _ h)

-- it is whole, and too large
pub body_long : (r : List ℕ) → 4 ≤ length (behind_path r) → 1048576 < body_size r → body_fault r ≡ Some LongBody
unfolding body_fault
body_long r h l = cond-false _ _ _ (le-ltb _ _ h) ∙ cond-true _ _ _ (lt-ltb _ _ l)

-- the body runs out
pub body_cut : (r : List ℕ) → 4 ≤ length (behind_path r) → body_size r ≤ 1048576 → length r < extent r → body_fault r ≡ Some CutShort
unfolding body_fault
body_cut r h l s = cond-false _ _ _ (le-ltb _ _ h) ∙ cond-false _ _ _ (le-ltb _ _ l) ∙ cond-true _ _ _ (lt-ltb _ _ s)

pub body_fine : (r : List ℕ) → 4 ≤ length (behind_path r) → body_size r ≤ 1048576 → extent r ≤ length r → body_fault r ≡ None
unfolding body_fault
body_fine r h l s = cond-false _ _ _ (le-ltb _ _ h) ∙ cond-false _ _ _ (le-ltb _ _ l) ∙ cond-false _ _ _ (le-ltb _ _ s)

-- What the tests say where no rule is broken.
untaken : {A : Type 0} (b : Bool) (x : A) (o : Option A) → cond b (Some x) o ≡ None → (b ≡ false) × (o ≡ None)
untaken true x o e = let z : ◌≡◌ {A = ℕ} 0 1 = cc in absurd (omega arith)
untaken false x o e = (refl, e)

taken : {A : Type 0} (b : Bool) (x : A) → cond b None (Some x) ≡ None → b ≡ true
taken true x e = refl
taken false x e = let z : ◌≡◌ {A = ℕ} 0 1 = cc in absurd (omega arith)

pub path_none : (r : List ℕ) → path_fault r ≡ None → (1 + path_size r ≤ length r) × (lawful_path (path_of r) ≡ true)
unfolding path_fault
path_none r e =
    let u = untaken (ltb (length r) (1 + path_size r)) CutShort (cond (lawful_path (path_of r)) None (Some UnlawfulPath)) e in
    (ltb-false _ _ u.0, taken (lawful_path (path_of r)) UnlawfulPath u.1)

pub body_none : (r : List ℕ) → body_fault r ≡ None → (4 ≤ length (behind_path r)) × (body_size r ≤ 1048576) × (extent r ≤ length r)
unfolding body_fault
body_none r e =
    let u = untaken (ltb (length (behind_path r)) 4) CutShort _ e in
    let v = untaken (ltb 1048576 (body_size r)) LongBody _ u.1 in
    let w = untaken (ltb (length r) (extent r)) CutShort None v.1 in
    (ltb-false _ _ u.0, ltb-false _ _ v.0, ltb-false _ _ w.0)

-- Which fault comes first.
pub fault_path : (ps : List Pair) (r : List ℕ) (rule : Rule) → path_fault r ≡ Some rule → fault ps r ≡ Some rule
unfolding fault
fault_path ps r rule e = ap (λ (o : Option Rule). or_else o (or_else (cond (met ps (path_of r)) (Some RepeatedPath) None) (body_fault r))) e

fault_later : (ps : List Pair) (r : List ℕ) → path_fault r ≡ None → fault ps r ≡ or_else (cond (met ps (path_of r)) (Some RepeatedPath) None) (body_fault r)
unfolding fault
fault_later ps r e = ap (λ (o : Option Rule). or_else o (or_else (cond (met ps (path_of r)) (Some RepeatedPath) None) (body_fault r))) e

pub fault_met : (ps : List Pair) (r : List ℕ) → path_fault r ≡ None → met ps (path_of r) ≡ true → fault ps r ≡ Some RepeatedPath
fault_met ps r e m = fault_later ps r e ∙ ap (λ (b : Bool). or_else (cond b (Some RepeatedPath) None) (body_fault r)) m

pub fault_body : (ps : List Pair) (r : List ℕ) → path_fault r ≡ None → met ps (path_of r) ≡ false → fault ps r ≡ body_fault r
fault_body ps r e m = fault_later ps r e ∙ ap (λ (b : Bool). or_else (cond b (Some RepeatedPath) None) (body_fault r)) m

or_none : (a b : Option Rule) → or_else a b ≡ None → (a ≡ None) × (b ≡ None)
or_none None b e = (refl, e)
or_none (Some x) b e = let z : ◌≡◌ {A = ℕ} 0 1 = cc in absurd (omega arith)

pub fault_none : (ps : List Pair) (r : List ℕ) → fault ps r ≡ None → (path_fault r ≡ None) × (met ps (path_of r) ≡ false) × (body_fault r ≡ None)
unfolding fault
fault_none ps r e =
    let u = or_none (path_fault r) _ e in
    let v = or_none (cond (met ps (path_of r)) (Some RepeatedPath) None) (body_fault r) u.1 in
    (u.0, (untaken (met ps (path_of r)) RepeatedPath None v.0).0, v.1)

-- where the body lies in its record
pub body_lies : (r : List ℕ) → body_of r ≡ take (body_size r) (drop (5 + path_size r) r)
unfolding body_of behind_path
body_lies r =
    let sum : 1 + path_size r + 4 ≡ 5 + path_size r = omega arith in
    ap (take (body_size r)) (drop-drop 4 (1 + path_size r) r ∙ ap (λ (n : ℕ). drop n r) sum)

-- a whole path is as long as its length byte says
pub length_path : (r : List ℕ) → path_fault r ≡ None → length (path_of r) ≡ path_size r
unfolding path_of
length_path r e = length-take-le (path_size r) (drop 1 r) (rw (length-drop 1 r) (omega (arith, (path_none r e).0)))

-- A record taken apart. Its first byte is the length of its path.
module _ (r rest : List ℕ) (n : ℕ) (is : r ≡ n ∷ rest) where
  size_first : path_size r ≡ n
  size_first = rw is refl

  length_first : length r ≡ 1 + length rest
  length_first = rw is (omega arith)

  -- the path runs out
  pub split_cut : length rest < n → path_fault r ≡ Some CutShort
  split_cut h = path_cut r (omega (arith, size_first, length_first))

  pub split_whole : n ≤ length rest → 1 + path_size r ≤ length r
  split_whole h = omega (arith, size_first, length_first)

  pub split_path_of : path_of r ≡ take n rest
  unfolding path_of
  split_path_of = rw is refl

  pub split_behind : behind_path r ≡ drop n rest
  unfolding behind_path
  split_behind = rw (is, one-add n) refl

-- What stands behind a path taken apart: the body's length in four bytes, and the body.
pub after_cut : (t : List ℕ) → length t < 4 → body_fault_after t ≡ Some CutShort
unfolding body_fault_after
after_cut t h = cond-true _ _ _ (lt-ltb _ _ h)

module _ (t : List ℕ) (h : 4 ≤ length t) where
  pub after_long : 1048576 < four t → body_fault_after t ≡ Some LongBody
  unfolding body_fault_after
  after_long l = cond-false _ _ _ (le-ltb _ _ h) ∙ cond-true _ _ _ (lt-ltb _ _ l)

  pub after_ends : four t ≤ 1048576 → length t < 4 + four t → body_fault_after t ≡ Some CutShort
  unfolding body_fault_after
  after_ends l s = cond-false _ _ _ (le-ltb _ _ h) ∙ cond-false _ _ _ (le-ltb _ _ l) ∙ cond-true _ _ _ (lt-ltb _ _ s)

  pub after_fine : four t ≤ 1048576 → 4 + four t ≤ length t → body_fault_after t ≡ None
  unfolding body_fault_after
  after_fine l s = cond-false _ _ _ (le-ltb _ _ h) ∙ cond-false _ _ _ (le-ltb _ _ l) ∙ cond-false _ _ _ (le-ltb _ _ s)

-- two tests that hold together
same_test : (a b c d : ℕ) → (a < b → c < d) → (b ≤ a → d ≤ c) → ltb a b ≡ ltb c d
same_test a b c d less not-less =
    ⊎_elim (λ l. lt-ltb a b l ∙ sym (lt-ltb c d (less l))) (λ l. le-ltb a b l ∙ sym (le-ltb c d (not-less l))) (cases_lt a b)

-- what holds behind a whole path holds of the record
module _ (r : List ℕ) (h : 1 + path_size r ≤ length r) where
  pub fault_behind : body_fault_after (behind_path r) ≡ body_fault r
  unfolding body_fault_after body_fault body_size extent
  fault_behind =
      let t = behind_path r in
      let long = length_behind r in
      let same = same_test (length t) (4 + four t) (length r) (5 + path_size r + four t) (λ l. omega (arith, long)) (λ l. omega (arith, long)) in
      ap (λ (b : Bool). cond (nat_lt (length (behind_path r)) 4) (Some CutShort) (cond (nat_lt 1048576 (four (behind_path r))) (Some LongBody) (cond b (Some CutShort) None))) same

  pub body_behind : body_after (behind_path r) ≡ body_of r
  unfolding body_after body_of body_size
  body_behind = refl

  pub rest_behind : behind_body (behind_path r) ≡ drop (extent r) r
  unfolding behind_body behind_path extent body_size
  rest_behind =
      let sum : 1 + path_size r + (4 + four (drop (1 + path_size r) r)) ≡ 5 + path_size r + four (drop (1 + path_size r) r) = omega arith in
      drop-drop _ 4 (drop (1 + path_size r) r) ∙ drop-drop _ (1 + path_size r) r ∙ ap (λ (k : ℕ). drop k r) sum

-- What stands around values: brackets, commas, names.
use Rattle.std.proofs.Common.{◌≡◌, ℕ, ◌+◌, ◌<◌, Bool, false, List, ◌∷◌, length, get_or, sym, refl, ◌∙◌, arith}
use Rattle.std.proofs.lemmas.Bool.{cond-true, cond-false, ne_eqb, le-leb, lt-leb}
use Rattle.syntax.specs.Bytes.{white}
use Rattle.syntax.specs.Value.{Value, Items, Members, none, end}
use Rattle.syntax.specs.Machine.{Rules, limits, Mode, Frame, in_array, in_object, live, over, fault, value, first, after, name1, name, opened, malformed, too_deep}
use Rattle.syntax.specs.Steps.{Leads, Fails}
use Rattle.syntax.proofs.Runs.{alike}
use Rattle.text.proofs.Scans.{stuck}

module _ (r : Rules) (s : List ℕ) (i : ℕ) (k : List Frame) (solid : i < length s → white (get_or s i 0) ≡ false) where
  -- the first item of an array, and the first name of an object
  pub first_item : (p : ℕ) → (i < length s → get_or s i 0 ≡ 93 → ⊥) → Leads r s i (live (first p) k) i (live value (in_array p none ∷ k))
  first_item p other = alike r s i _ _ (λ h. cond-false _ _ _ (solid h) ∙ cond-false _ _ _ (ne_eqb _ 93 (other h)) ∙ sym (cond-false _ _ _ (solid h))) (λ h. refl)

  pub first_name : (p : ℕ) → (i < length s → get_or s i 0 ≡ 125 → ⊥) → Leads r s i (live (name1 p) k) i (live (name p end) k)
  first_name p other = alike r s i _ _ (λ h. cond-false _ _ _ (solid h) ∙ cond-false _ _ _ (ne_eqb _ 125 (other h)) ∙ sym (cond-false _ _ _ (solid h))) (λ h. refl)

  -- neither a comma nor what closes stands behind an item or a member
  pub item_out : (v : Value) (p : ℕ) (vs : Items) → (i < length s → get_or s i 0 ≡ 93 → ⊥) → (i < length s → get_or s i 0 ≡ 44 → ⊥) → Fails r s i (live (after v) (in_array p vs ∷ k)) (malformed i)
  item_out v p vs g c = stuck r s i _ _ (λ h. cond-false _ _ _ (solid h) ∙ cond-false _ _ _ (ne_eqb _ 44 (c h)) ∙ cond-false _ _ _ (ne_eqb _ 93 (g h))) (λ h. refl)

  pub member_out : (v : Value) (p : ℕ) (ms : Members) (q : ℕ) (n : List ℕ) → (i < length s → get_or s i 0 ≡ 125 → ⊥) → (i < length s → get_or s i 0 ≡ 44 → ⊥) → Fails r s i (live (after v) (in_object p ms q n ∷ k)) (malformed i)
  member_out v p ms q n g c = stuck r s i _ _ (λ h. cond-false _ _ _ (solid h) ∙ cond-false _ _ _ (ne_eqb _ 44 (c h)) ∙ cond-false _ _ _ (ne_eqb _ 125 (g h))) (λ h. refl)

-- a bracket that opens, or opens too deep
pub opens : (b : Bool) (k : List Frame) (d i : ℕ) (m : Mode) → length k + d ≡ 16 → (d ≡ 0 → ⊥) → opened (limits b) k i m ≡ live m k
opens b k d i m n h = cond-false _ _ _ (lt-leb 16 (length k) (omega arith))

pub opens_not : (b : Bool) (k : List Frame) (d i : ℕ) (m : Mode) → length k + d ≡ 16 → d ≡ 0 → opened (limits b) k i m ≡ over (fault (too_deep i))
opens_not b k d i m n h = cond-true _ _ _ (le-leb 16 (length k) (omega arith))

-- The first byte of a value, and what the scanners say of what comes behind it.
use Rattle.std.proofs.Common.{◌≡◌, ℕ, ◌+◌, ◌-◌, ◌<◌, ◌≤◌, false, ◌⊎◌, List, [], ◌∷◌, ◌++◌, length, get_or, take, drop, Ok, Err, Result, sym, ap, ◌∙◌, arith}
use Rattle.std.proofs.lemmas.List.Edits.{between_more}
use Rattle.std.proofs.lemmas.Bool.Decides.{nat_tests}
use Rattle.std.specs.List.{between}
use Rattle.syntax.specs.declared.kinds.Fault.{Fault}
use Rattle.syntax.specs.declared.kinds.Literal.{Literal}
use Rattle.syntax.specs.declared.kinds.Kind.{Kind}
use Rattle.syntax.specs.declared.kinds.Digits.{Digits}
use Rattle.syntax.specs.declared.kinds.Digits.TheVariants.{Whole}
use Rattle.syntax.specs.Bytes.{white}
use Rattle.syntax.specs.Value.{number, literal}
use Rattle.syntax.specs.Machine.{Rules, Frame, live, value, digits, spelled, step_live, bad}
use Rattle.syntax.specs.Steps.{Leads}
use Rattle.syntax.proofs.Runs.{steps}
use Rattle.text.specs.declared.part.Part.{Part}
use Rattle.text.specs.Part.{literal_kind}
use Rattle.text.specs.Scans.{Spans, Numbers, Words, Reads}

single : (s : List ℕ) (i : ℕ) → i < length s → between i (i + 1) s ≡ get_or s i 0 ∷ []
single s i h = let z : i - i ≡ 0 = omega arith in between_more s i i 0 (omega arith) h ∙ ap (λ n. take n (drop i s) ++ get_or s i 0 ∷ []) z

-- a part by its kind and its places
told : (c : Kind) (s : List ℕ) (i : ℕ) (t : Part) → Spans c s i t → record { kind = c; start = i; end = t.end } ≡ t
told c s i t h = let P : Kind → ℕ → Part = λ a b. record { kind = a; start = b; end = t.end } in ap (λ a. P a i) (sym h.kind) ∙ ap (λ b. P t.kind b) (sym h.start)

module _ (r : Rules) (d : ℕ) (s : List ℕ) (i b : ℕ) (h : i < length s) (e : get_or s i 0 ≡ b) where
  pub numbers_read : (g : Digits) (x : Result Part Fault) → ((k : List Frame) → step_live r value k b i ≡ live (digits g i (b ∷ [])) k) → Numbers g s i x → Reads r (live value) d s i x
  numbers_read g x l c = go x c
    where
      first : (k : List Frame) → Leads r s i (live value k) (i + 1) (live (digits g i (between i (i + 1) s)) k)
      first k = steps r s i _ _ h (ap (λ x. step_live r value k x i) e ∙ l k ∙ ap (λ x. live (digits g i (x ∷ [])) k) (sym e) ∙ ap (λ x. live (digits g i x) k) (sym (single s i h)))

      go : (x : Result Part Fault) → Numbers g s i x → Reads r (live value) d s i x
      go (Ok t) c = (c.0.past, c.0.within, (number i t.end (between i t.end s), told _ s i t c.0, λ k n. first k ∙ c.1 r k))
      go (Err f) c = λ k n. first k ∙ c r k

  pub words_read : (w : Literal) (xs : List ℕ) (x : Result Part Fault) → ((k : List Frame) → step_live r value k b i ≡ spelled xs w i k (i + 1)) → Words xs (literal_kind w) s i x → Reads r (live value) d s i x
  words_read w xs x l c = go x c
    where
      first : (k : List Frame) → Leads r s i (live value k) (i + 1) (spelled xs w i k (i + 1))
      first k = steps r s i _ _ h (ap (λ x. step_live r value k x i) e ∙ l k)

      go : (x : Result Part Fault) → Words xs (literal_kind w) s i x → Reads r (live value) d s i x
      go (Ok t) c = (c.0.past, c.0.within, (literal i t.end w, told _ s i t c.0, λ k n. first k ∙ c.1 r w k))
      go (Err f) c = λ k n. first k ∙ c r w k

-- a digit but 0
pub whole_first : (r : Rules) (k : List Frame) (b i : ℕ) → 49 ≤ b → b ≤ 57 → step_live r value k b i ≡ live (digits Whole i (b ∷ [])) k
whole_first r k b i h l = grind (arith, nat_tests)

pub no_first : (r : Rules) (k : List Frame) (b i : ℕ) → white b ≡ false → (b ≡ 34 → ⊥) → (b ≡ 91 → ⊥) → (b ≡ 123 → ⊥) → (b ≡ 45 → ⊥) → (b < 48) ⊎ (57 < b) → (b ≡ 110 → ⊥) → (b ≡ 116 → ⊥) → (b ≡ 102 → ⊥) → step_live r value k b i ≡ bad i
no_first r k b i w h1 h2 h3 h4 h5 h6 h7 h8 = grind (arith, nat_tests)

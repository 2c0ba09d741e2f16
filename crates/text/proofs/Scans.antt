-- One byte of a string, a number or a literal.
use Rattle.std.proofs.Common.{◌≡◌, ℕ, zero, suc, ◌+◌, ◌<◌, ◌≤◌, true, false, ◌&&◌, eqb, List, [], ◌∷◌, length, get_or, drop, Some, None, sym, refl, ap, ◌∙◌, ⊎_elim, cond, add-zero, subst, length-drop, arith}
use Rattle.std.proofs.lemmas.List.Edits.{between_more, between_none}
use Rattle.std.proofs.lemmas.Bool.{cond-true, cond-false, eq-eqb, ne_eqb, cases_lt}
use Rattle.std.proofs.lemmas.List.{drop_more, get_or-drop}
use Rattle.std.proofs.lemmas.List.Sums.{prefix_len-le-length, prefix_len_passes, prefix_len_stops}
use Rattle.std.proofs.lemmas.Bool.Decides.{nat_tests}
use Rattle.std.specs.List.{between, prefix_len}
use Rattle.syntax.specs.declared.kinds.Letters.{Letters}
use Rattle.syntax.specs.declared.kinds.Letters.TheVariants.{Plain}
use Rattle.syntax.specs.declared.kinds.Digits.{Digits}
use Rattle.syntax.specs.declared.kinds.Literal.{Literal}
use Rattle.syntax.specs.Bytes.{white, whites, unescaped, gap}
use Rattle.syntax.specs.Value.{Value, number}
use Rattle.syntax.specs.Machine.{Rules, run, State, Frame, Role, live, chars, digits, deliver, step, finish, step_after, ends, step_chars, next_letters, plain, next_digits, step_digits, ended, spelled, word, malformed, over, fault}
use Rattle.syntax.specs.Steps.{Leads, Fails, Loose}
use Rattle.syntax.proofs.Runs.{steps, fails, fails_end, alike, loose_gap}
use Rattle.syntax.specs.declared.kinds.Fault.{Fault}

unescaped_plain : (b : ℕ) → unescaped b ≡ true → (eqb b 34 ≡ false) × (next_letters Plain b ≡ Some Plain)
unescaped_plain b h = (grind (arith, nat_tests), grind (arith, nat_tests))

module _ (r : Rules) (s : List ℕ) where
  -- a fault at i, be it at a byte or where the bytes end
  pub stuck : (i : ℕ) (a : State) (f : Fault) → (i < length s → step r a (get_or s i 0) i ≡ over (fault f)) → (length s ≤ i → finish a i ≡ fault f) → Fails r s i a f
  stuck i a f h e = ⊎_elim (λ l. fails r s i a f l (h l)) (λ l. fails_end r s i a f l (e l)) (cases_lt i (length s))

  -- over white space up to j
  pub over_gap : (i j : ℕ) (a : State) → Loose a → j ≡ gap s i → Leads r s i a j a
  over_gap i j a l e = loose_gap r s i a l ∙ ap (λ n. run r (drop n s) n a) (sym e)

  module _ (i at : ℕ) (o : Letters) (e : Role) (q : ℕ) (k : List Frame) where
    pub chars_on : (o' : Letters) → at ≤ i → i < length s → (plain o && eqb (get_or s i 0) 34) ≡ false → next_letters o (get_or s i 0) ≡ Some o' → Leads r s i (live (chars o e q (between at i s)) k) (i + 1) (live (chars o' e q (between at (i + 1) s)) k)
    chars_on o' a h p n =
        steps r s i _ _ h (cond-false _ _ _ p ∙ ap (λ t. step_chars t e q (between at i s) k (get_or s i 0) i) n ∙ ap (λ l. live (chars o' e q l) k) (sym (between_more s at i 0 a h)))

    pub chars_out : (i < length s → ((plain o && eqb (get_or s i 0) 34) ≡ false) × (next_letters o (get_or s i 0) ≡ None)) → Fails r s i (live (chars o e q (between at i s)) k) (malformed i)
    chars_out h = stuck i _ _ (λ l. cond-false _ _ _ (h l).0 ∙ ap (λ t. step_chars t e q (between at i s) k (get_or s i 0) i) (h l).1) (λ l. refl)

  -- over bytes that stand for themselves
  pub chars_plain : (at : ℕ) (e : Role) (q : ℕ) (k : List Frame) (n : ℕ) → n ≤ prefix_len unescaped (drop at s) → at ≤ length s → Leads r s at (live (chars Plain e q []) k) (at + n) (live (chars Plain e q (between at (at + n) s)) k)
  chars_plain at e q k zero l w =
      subst (λ j. Leads r s at (live (chars Plain e q []) k) j (live (chars Plain e q (between at j s)) k)) (sym (add-zero at))
      (ap (λ t. run r (drop at s) at (live (chars Plain e q t) k)) (sym (between_none s at)))
  chars_plain at e q k (suc n) l w =
      let inside : at + n < length s = omega (arith, prefix_len-le-length unescaped (drop at s), length-drop at s) in
      let own = unescaped_plain (get_or s (at + n) 0) (ap unescaped (sym (get_or-drop at s n 0)) ∙ prefix_len_passes unescaped (drop at s) n 0 l) in
      let next : (at + n) + 1 ≡ at + suc n = omega arith in
      subst (λ j. Leads r s at (live (chars Plain e q []) k) j (live (chars Plain e q (between at j s)) k)) next
      (chars_plain at e q k n (omega arith) w ∙ chars_on (at + n) at Plain e q k Plain (omega arith) inside own.0 own.1)

  -- a value that was read goes on as what stands around it does
  delivered : (v : Value) (k : List Frame) (b i : ℕ) → step_after v k b i ≡ step r (deliver v k) b i
  delivered v [] b i = refl
  delivered v (f ∷ k) b i = refl

  delivered_end : (v : Value) (k : List Frame) (i : ℕ) → ends v k i ≡ finish (deliver v k) i
  delivered_end v [] i = refl
  delivered_end v (f ∷ k) i = refl

  module _ (i at : ℕ) (g : Digits) (k : List Frame) where
    pub digits_on : (g' : Digits) → at ≤ i → i < length s → next_digits g (get_or s i 0) ≡ Some g' → Leads r s i (live (digits g at (between at i s)) k) (i + 1) (live (digits g' at (between at (i + 1) s)) k)
    digits_on g' a h n =
        steps r s i _ _ h (ap (λ t. step_digits t g at (between at i s) k (get_or s i 0) i) n ∙ ap (λ l. live (digits g' at l) k) (sym (between_more s at i 0 a h)))

    -- the number ends before a byte with which it cannot go on, or with the bytes
    pub digits_done : (i < length s → next_digits g (get_or s i 0) ≡ None) → ended g ≡ true → Leads r s i (live (digits g at (between at i s)) k) i (deliver (number at i (between at i s)) k)
    digits_done n d =
        alike r s i _ _ (λ h. ap (λ t. step_digits t g at (between at i s) k (get_or s i 0) i) (n h) ∙ cond-true _ _ _ d ∙ delivered (number at i (between at i s)) k (get_or s i 0) i)
        (λ h. cond-true _ _ _ d ∙ delivered_end (number at i (between at i s)) k i)

    pub digits_out : (i < length s → next_digits g (get_or s i 0) ≡ None) → ended g ≡ false → Fails r s i (live (digits g at (between at i s)) k) (malformed i)
    digits_out n d = stuck i _ _ (λ h. ap (λ t. step_digits t g at (between at i s) k (get_or s i 0) i) (n h) ∙ cond-false _ _ _ d) (λ h. cond-false _ _ _ d)

  module _ (i : ℕ) (rest : List ℕ) (j : ℕ) (w : Literal) (p : ℕ) (k : List Frame) (some : j < length rest) where
    spells : spelled (drop j rest) w p k i ≡ live (word (get_or rest j 0) (drop (j + 1) rest) w p) k
    spells = ap (λ l. spelled l w p k i) (drop_more rest j 0 some)

    pub word_on : i < length s → get_or s i 0 ≡ get_or rest j 0 → Leads r s i (spelled (drop j rest) w p k i) (i + 1) (spelled (drop (j + 1) rest) w p k (i + 1))
    word_on h e = ap (run r (drop i s) i) spells ∙ steps r s i _ _ h (cond-true _ _ _ (eq-eqb _ _ e))

    pub word_out : (i < length s → get_or s i 0 ≡ get_or rest j 0 → ⊥) → Fails r s i (spelled (drop j rest) w p k i) (malformed i)
    word_out e = ap (run r (drop i s) i) spells ∙ stuck i _ _ (λ h. cond-false _ _ _ (ne_eqb _ _ (e h))) (λ h. refl)

-- white space as `take_while` counts it
pub whites_prefix : (l : List ℕ) → whites l ≡ prefix_len white l
whites_prefix [] = refl
whites_prefix (b ∷ l) = ap (λ n. cond (white b) n 0) (ap suc (whites_prefix l) ∙ (let n = prefix_len white l in let e : suc n ≡ 1 + n = omega arith in e))

-- the place past the white space that `take_while` counts
pub record Skipped (s : List ℕ) (at i : ℕ) : Type 0 where
  pub is : i ≡ gap s at
  pub within : at ≤ length s → i ≤ length s
  pub stops : i < length s → white (get_or s i 0) ≡ false

pub skipped : (s : List ℕ) (at n : ℕ) → n ≡ prefix_len white (drop at s) → n ≤ length (drop at s) → Skipped s at (at + n)
unfolding gap
skipped s at n e l = record {
  is = ap (λ m. at + m) (e ∙ sym (whites_prefix (drop at s)));
  within = λ h. omega (arith, l, length-drop at s);
  stops = λ h. ap white (sym (get_or-drop at s n 0) ∙ ap (λ m. get_or (drop at s) m 0) e) ∙ prefix_len_stops white (drop at s) 0 (omega (arith, e, length-drop at s));
}

-- How reading goes on, place by place.
use Rattle.std.proofs.Common.{◌≡◌, ℕ, zero, suc, ◌+◌, ◌-◌, ◌<◌, ◌≤◌, true, List, [], ◌∷◌, length, get_or, drop, sym, refl, ap, ◌∙◌, ⊎_elim, arith}
use Rattle.std.proofs.lemmas.List.{drop_more, drop_all}
use Rattle.std.proofs.lemmas.Bool.{cond-true, cases_lt, cases_Bool}
use Rattle.syntax.specs.declared.kinds.Fault.{Fault}
use Rattle.syntax.specs.Bytes.{white, gap}
use Rattle.syntax.specs.Value.{Value}
use Rattle.syntax.specs.Machine.{Rules, run, State, live, over, step, finish, fault, Outcome, value, first, after, name1, name, colon, chars, digits, word, Frame, in_array, in_object, deliver}
use Rattle.syntax.specs.Steps.{Leads, Fails, Loose}
use Rattle.syntax.proofs.Gaps.{gap_white, gap_solid, gap_end}

module _ (r : Rules) where
  pub run_step : (s : List ℕ) (i : ℕ) (a : State) → i < length s → Leads r s i a (i + 1) (step r a (get_or s i 0) i)
  unfolding run
  run_step s i a h = ap (λ l. run r l i a) (drop_more s i 0 h)

  pub run_end : (s : List ℕ) (i : ℕ) (a : State) → length s ≤ i → run r (drop i s) i a ≡ finish a i
  unfolding run
  run_end s i a h = ap (λ l. run r l i a) (drop_all i s h)

  pub run_over : (l : List ℕ) (i : ℕ) (o : Outcome) → run r l i (over o) ≡ o
  unfolding run
  run_over [] i o = refl
  run_over (b ∷ l) i o = run_over l (i + 1) o

  -- one byte on
  pub steps : (s : List ℕ) (i : ℕ) (a b : State) → i < length s → step r a (get_or s i 0) i ≡ b → Leads r s i a (i + 1) b
  steps s i a b h e = run_step s i a h ∙ ap (run r (drop (i + 1) s) (i + 1)) e

  pub fails : (s : List ℕ) (i : ℕ) (a : State) (f : Fault) → i < length s → step r a (get_or s i 0) i ≡ over (fault f) → Fails r s i a f
  fails s i a f h e = steps s i a (over (fault f)) h e ∙ run_over (drop (i + 1) s) (i + 1) (fault f)

  pub fails_end : (s : List ℕ) (i : ℕ) (a : State) (f : Fault) → length s ≤ i → finish a i ≡ fault f → Fails r s i a f
  fails_end s i a f h e = run_end s i a h ∙ e

  -- one byte on, where the byte is known
  pub at_byte : (s : List ℕ) (i b : ℕ) (a c : State) → i < length s → get_or s i 0 ≡ b → step r a b i ≡ c → Leads r s i a (i + 1) c
  at_byte s i b a c h e l = steps s i a c h (ap (λ x. step r a x i) e ∙ l)

  -- two states that go on alike
  pub alike : (s : List ℕ) (i : ℕ) (a c : State) → (i < length s → step r a (get_or s i 0) i ≡ step r c (get_or s i 0) i) → (length s ≤ i → finish a i ≡ finish c i) → Leads r s i a i c
  alike s i a c l e =
      ⊎_elim (λ h. run_step s i a h ∙ ap (run r (drop (i + 1) s) (i + 1)) (l h) ∙ sym (run_step s i c h))
      (λ h. run_end s i a h ∙ e h ∙ sym (run_end s i c h)) (cases_lt i (length s))

  loose : (a : State) (b i : ℕ) → Loose a → white b ≡ true → step r a b i ≡ a
  loose (over o) b i h w = refl
  loose (live value k) b i h w = cond-true _ _ _ w
  loose (live (first p) k) b i h w = cond-true _ _ _ w
  loose (live (after v) []) b i h w = absurd h
  loose (live (after v) (in_array p vs ∷ k)) b i h w = cond-true _ _ _ w
  loose (live (after v) (in_object p ms q n ∷ k)) b i h w = cond-true _ _ _ w
  loose (live (name1 p) k) b i h w = cond-true _ _ _ w
  loose (live (name p ms) k) b i h w = cond-true _ _ _ w
  loose (live (colon p ms q n) k) b i h w = cond-true _ _ _ w
  loose (live (chars o e q n) k) b i h w = absurd h
  loose (live (digits g p n) k) b i h w = absurd h
  loose (live (word x xs u p) k) b i h w = absurd h

  -- white space is read over
  pub loose_step : (s : List ℕ) (i : ℕ) (a : State) → i < length s → Loose a → white (get_or s i 0) ≡ true → Leads r s i a (i + 1) a
  loose_step s i a h l w = steps s i a a h (loose a (get_or s i 0) i l w)

  pub loose_gap : (s : List ℕ) (i : ℕ) (a : State) → Loose a → Leads r s i a (gap s i) a
  loose_gap s i a l = go (length s - i) i refl
    where
      go : (n j : ℕ) → n ≡ length s - j → Leads r s j a (gap s j) a
      go zero j e = rw (gap_end s j (omega arith))
      go (suc n) j e =
          let h : j < length s = omega arith in
          ⊎_elim (λ w. loose_step s j a h l w ∙ go n (j + 1) (omega arith) ∙ (rw (gap_white s j h w)))
          (λ w. rw (gap_solid s j h w)) (cases_Bool (white (get_or s j 0)))

pub deliver_loose : (v : Value) (k : List Frame) → Loose (deliver v k)
deliver_loose v [] = tt
deliver_loose v (f ∷ k) = tt

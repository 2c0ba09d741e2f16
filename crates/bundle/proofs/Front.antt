-- The head and the count.
use Rattle.std.proofs.Common.{◌≡◌, ℕ, ◌<◌, ◌≤◌, true, false, List, [], ◌∷◌, ◌++◌, length, get_or, take, drop, refl, ◌∙◌, ⊎_elim, arith}
use Rattle.std.proofs.lemmas.Slice.Eq.{bytes_eq-Decides}
use Rattle.std.proofs.lemmas.Bool.{cond-true, cond-false, lt-ltb, le-ltb, leb-true, le-leb, and_parts, and_from, cases_Bool, not_from_true, not_from_false}
use Rattle.bundle.specs.declared.rules.Rule.TheVariants.{TooLong, Head, TooMany}
use Rattle.bundle.specs.Layout.{head, Headed, headed, count_of, refused, reading, checked}

pub front : (bs : List ℕ) → 7 ≤ length bs → get_or bs 0 0 ≡ 67 → get_or bs 1 0 ≡ 65 → get_or bs 2 0 ≡ 80 → get_or bs 3 0 ≡ 0 → get_or bs 4 0 ≡ 1
    → bs ≡ head ++ (get_or bs 5 0 ∷ get_or bs 6 0 ∷ drop 7 bs)
front [] h p q r s t = absurd (omega arith)
front (_ ∷ []) h p q r s t = absurd (omega arith)
front (_ ∷ _ ∷ []) h p q r s t = absurd (omega arith)
front (_ ∷ _ ∷ _ ∷ []) h p q r s t = absurd (omega arith)
front (_ ∷ _ ∷ _ ∷ _ ∷ []) h p q r s t = absurd (omega arith)
front (_ ∷ _ ∷ _ ∷ _ ∷ _ ∷ []) h p q r s t = absurd (omega arith)
front (_ ∷ _ ∷ _ ∷ _ ∷ _ ∷ _ ∷ []) h p q r s t = absurd (omega arith)
front (_ ∷ _ ∷ _ ∷ _ ∷ _ ∷ _ ∷ _ ∷ xs) h p q r s t = cc

heads : (bs : List ℕ) → 7 ≤ length bs → take 5 bs ≡ head → bs ≡ head ++ (get_or (drop 5 bs) 0 0 ∷ get_or (drop 5 bs) 1 0 ∷ drop 7 bs)
heads [] h e = absurd (omega arith)
heads (_ ∷ []) h e = absurd (omega arith)
heads (_ ∷ _ ∷ []) h e = absurd (omega arith)
heads (_ ∷ _ ∷ _ ∷ []) h e = absurd (omega arith)
heads (_ ∷ _ ∷ _ ∷ _ ∷ []) h e = absurd (omega arith)
heads (_ ∷ _ ∷ _ ∷ _ ∷ _ ∷ []) h e = absurd (omega arith)
heads (_ ∷ _ ∷ _ ∷ _ ∷ _ ∷ _ ∷ []) h e = absurd (omega arith)
heads (_ ∷ _ ∷ _ ∷ _ ∷ _ ∷ _ ∷ _ ∷ xs) h e = cc

pub headed_long : (bs : List ℕ) (n : ℕ) → Headed bs n → 7 ≤ length bs
headed_long bs n w = rw w.is (omega arith)

-- a head with a count is seen
pub headed_true : (bs : List ℕ) (n : ℕ) → Headed bs n → headed bs ≡ true
unfolding headed
headed_true bs n w = and_from _ _ (le-leb _ _ (headed_long bs n w)) (rw w.is refl)

pub headed_count : (bs : List ℕ) (n : ℕ) → Headed bs n → n ≡ count_of bs
headed_count bs n w = w.counts ∙ rw w.is refl

-- and where one is seen, it is there
pub headed_there : (bs : List ℕ) → headed bs ≡ true → Headed bs (count_of bs)
unfolding headed
headed_there bs e =
    let b = and_parts _ _ e in
    record {
      high = get_or (drop 5 bs) 0 0;
      low = get_or (drop 5 bs) 1 0;
      rest = drop 7 bs;
      counts = refl;
      is = heads bs (leb-true _ _ b.0) ((bytes_eq-Decides (take 5 bs) head).0 b.1);
    }

pub headed_false : (bs : List ℕ) → ((n : ℕ) → Headed bs n → ⊥) → headed bs ≡ false
headed_false bs none = ⊎_elim (λ e. absurd (none _ (headed_there bs e))) (λ e. e) (cases_Bool (headed bs))

-- The check, rule by rule.
pub checked_long : (bs : List ℕ) → 16777216 < length bs → checked bs ≡ refused TooLong 0
unfolding checked
checked_long bs h = cond-true _ _ _ (lt-ltb _ _ h)

pub checked_head : (bs : List ℕ) → length bs ≤ 16777216 → headed bs ≡ false → checked bs ≡ refused Head 0
unfolding checked
checked_head bs h e = cond-false _ _ _ (le-ltb _ _ h) ∙ cond-true _ _ _ (not_from_false _ e)

pub checked_many : (bs : List ℕ) → length bs ≤ 16777216 → headed bs ≡ true → 1024 < count_of bs → checked bs ≡ refused TooMany 0
unfolding checked
checked_many bs h e m = cond-false _ _ _ (le-ltb _ _ h) ∙ cond-false _ _ _ (not_from_true _ e) ∙ cond-true _ _ _ (lt-ltb _ _ m)

pub checked_records : (bs : List ℕ) → length bs ≤ 16777216 → headed bs ≡ true → count_of bs ≤ 1024 → checked bs ≡ reading (count_of bs) [] (drop 7 bs) 7
unfolding checked
checked_records bs h e m = cond-false _ _ _ (le-ltb _ _ h) ∙ cond-false _ _ _ (not_from_true _ e) ∙ cond-false _ _ _ (le-ltb _ _ m)

-- A search has one answer.
use Rattle.std.proofs.Common.{◌≡◌, ℕ, List, Some, None, sym, refl, ap, ◌∙◌, ⊎_elim}
use Rattle.std.proofs.lemmas.Bool.{cases_order}
use Rattle.store.specs.Pairs.{Pair, Lawful, Found, OneAnswer}

-- two pairs that have one path are the same pair
pub one_number : (ps : List Pair) (p : List ℕ) (n m : ℕ) → Lawful ps → Found ps p n → Found ps p m → n ≡ m
one_number ps p n m w f h =
    ⊎_elim (λ e. e) (⊎_elim
    (λ l. absurd (w.apart n m (l, h.within) (f.same ∙ sym h.same)))
    (λ l. absurd (w.apart m n (l, f.within) (h.same ∙ sym f.same)))) (cases_order n m)

pub one_answer : OneAnswer
one_answer ps p None None w f h = refl
one_answer ps p None (Some m) w f h = absurd (f m h.within h.same)
one_answer ps p (Some n) None w f h = absurd (h n f.within f.same)
one_answer ps p (Some n) (Some m) w f h = ap Some (one_number ps p n m w f h)

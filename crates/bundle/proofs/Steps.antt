-- The reading, record by record, and the places of the records.
use Rattle.std.proofs.Common.{◌≡◌, ℕ, suc, ◌+◌, ◌<◌, ◌≤◌, List, [], ◌∷◌, ◌++◌, length, get_or, drop, Some, None, Ok, Option, Result, sym, refl, ap, ◌∙◌, add-one, arith, length-drop}
use Rattle.std.proofs.lemmas.List.FromFn.{length-map-range_with_len, get_or-map-range_with_len, map-range_with_len_more}
use Rattle.std.proofs.lemmas.List.{drop-drop}
use Rattle.store.specs.Pairs.{Pair, nothing}
use Rattle.bundle.specs.declared.rules.Rule.{Rule}
use Rattle.bundle.specs.declared.rules.Rule.TheVariants.{LeftOver}
use Rattle.bundle.specs.declared.rules.Refusal.{Refusal}
use Rattle.bundle.specs.Layout.{pair_of, extent, fault, unless, refused, reading, place_of, from_record, first_pairs, Fit}
use Rattle.bundle.proofs.Parts.{body_none, fault_none}

-- where a record breaks no rule, the reading goes on behind it
pub reading_on : (n : ℕ) (ps : List Pair) (r : List ℕ) (p : ℕ) → fault ps r ≡ None
    → reading (suc n) ps r p ≡ reading n (ps ++ pair_of r ∷ []) (drop (extent r) r) (p + extent r)
unfolding reading
reading_on n ps r p e = ap (λ (o : Option Rule). unless o p (reading n (ps ++ pair_of r ∷ []) (drop (extent r) r) (p + extent r))) e

-- where it breaks one, the reading ends
pub reading_stops : (n : ℕ) (ps : List Pair) (r : List ℕ) (p : ℕ) (rule : Rule) → fault ps r ≡ Some rule → reading (suc n) ps r p ≡ refused rule p
unfolding reading
reading_stops n ps r p rule e = ap (λ (o : Option Rule). unless o p (reading n (ps ++ pair_of r ∷ []) (drop (extent r) r) (p + extent r))) e

pub reading_all : (ps : List Pair) (r : List ℕ) (p : ℕ) → length r ≡ 0 → reading 0 ps r p ≡ Ok ps
unfolding reading
reading_all ps [] p e = refl
reading_all ps (b ∷ r) p e = absurd (omega arith)

pub reading_left : (ps : List Pair) (r : List ℕ) (p : ℕ) → 0 < length r → reading 0 ps r p ≡ refused LeftOver p
unfolding reading
reading_left ps [] p h = absurd (omega arith)
reading_left ps (b ∷ r) p h = refl

pub place_more : (bs : List ℕ) (n : ℕ) → place_of bs (n + 1) ≡ place_of bs n + extent (from_record bs n)
place_more bs n = rw (add-one n)

pub from_more : (bs : List ℕ) (n : ℕ) → drop (extent (from_record bs n)) (from_record bs n) ≡ from_record bs (n + 1)
from_more bs n = drop-drop (extent (from_record bs n)) (place_of bs n) bs ∙ ap (λ (p : ℕ). drop p bs) (sym (place_more bs n))

pub pairs_more : (bs : List ℕ) (n : ℕ) → first_pairs bs (n + 1) ≡ first_pairs bs n ++ pair_of (from_record bs n) ∷ []
unfolding first_pairs
pairs_more bs n = map-range_with_len_more (λ k. pair_of (from_record bs k)) 0 n n (omega arith)

pub length_first : (bs : List ℕ) (n : ℕ) → length (first_pairs bs n) ≡ n
unfolding first_pairs
length_first bs n = length-map-range_with_len (λ k. pair_of (from_record bs k)) 0 n

pub first_at : (bs : List ℕ) (n k : ℕ) → k < n → get_or (first_pairs bs n) k nothing ≡ pair_of (from_record bs k)
unfolding first_pairs
first_at bs n k h = get_or-map-range_with_len (λ i. pair_of (from_record bs i)) 0 n k k nothing h (omega arith)

-- the reading from record number n
abbrev pub reading_at : ℕ → List ℕ → ℕ → Result (List Pair) Refusal
reading_at m bs n = reading m (first_pairs bs n) (from_record bs n) (place_of bs n)

pub reading_more : (m : ℕ) (bs : List ℕ) (n : ℕ) → fault (first_pairs bs n) (from_record bs n) ≡ None → reading_at (suc m) bs n ≡ reading_at m bs (n + 1)
reading_more m bs n e =
    reading_on m (first_pairs bs n) (from_record bs n) (place_of bs n) e
    ∙ rw (← pairs_more bs n, from_more bs n, ← place_more bs n)

pub fit_none : (bs : List ℕ) → Fit bs 0
fit_none bs k h = absurd (omega arith)

-- a record that breaks no rule lies within the bytes
pub fault_room : (ps : List Pair) (bs : List ℕ) (p : ℕ) → p ≤ length bs → fault ps (drop p bs) ≡ None → p + extent (drop p bs) ≤ length bs
fault_room ps bs p h e = omega (arith, (body_none (drop p bs) (fault_none ps (drop p bs) e).2).2, length-drop p bs)

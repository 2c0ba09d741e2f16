-- The loop of the walk, record by record.
use Rattle.std.proofs.Common.{◌≡◌, ◌≢◌, ℕ, suc, ◌+◌, ◌-◌, ◌<◌, ◌≤◌, List, [], ◌∷◌, ◌++◌, length, get_or, drop, Ok, sym, refl, ap, ◌∙◌, ⊎_elim, arith, length-drop}
use Rattle.std.proofs.lemmas.List.FromFn.{length-map-range_with_len, get_or-map-range_with_len, map-range_with_len_more}
use Rattle.std.proofs.lemmas.Bool.{cond-true, cond-false, lt-ltb, le-ltb}
use Rattle.store.specs.Pairs as meaning
use Rattle.store.specs.Lent.{pair_of}
use Rattle.store.specs.declared.pairs.Pair.{Pair}
use Rattle.names.specs.declared.span.Span.{Span}
use Rattle.bundle.specs.declared.rules.Rule.{Rule}
use Rattle.bundle.specs.declared.rules.Rule.TheVariants.{LeftOver}
use Rattle.bundle.specs.Layout.{path_size, path_fault, body_fault, place_of, from_record, first_pairs}
use Rattle.bundle.specs.Rows.{seen, ending, tells, row_at, row_from, rows_of, Cuts, EndsAt}
use Rattle.bundle.proofs.Parts.{body_none}
use Rattle.bundle.proofs.Steps.{place_more, from_more, pairs_more, length_first}
use Rattle.bundle.proofs.Aside.{at_place, path_stops, body_stops, walks_on}

-- one path more is noted
pub rows_more : (bs : List ℕ) (n : ℕ) → rows_of bs (n + 1) ≡ rows_of bs n ++ row_at bs n ∷ []
unfolding rows_of
rows_more bs n = map-range_with_len_more (row_at bs) 0 n n (omega arith)

pub length_rows : (bs : List ℕ) (n : ℕ) → length (rows_of bs n) ≡ n
unfolding rows_of
length_rows bs n = length-map-range_with_len (row_at bs) 0 n

pub rows_at : (bs : List ℕ) (n k : ℕ) (d : Span) → k < n → get_or (rows_of bs n) k d ≡ row_at bs k
unfolding rows_of
rows_at bs n k d h = get_or-map-range_with_len (row_at bs) 0 n k k d h (omega arith)

-- n of `count` records are walked: r is left, the paths are noted and the pairs are cut, and what is left to walk decides
pub record WalkedTo (bs : List ℕ) (count n : ℕ) (r : List ℕ) (paths : List Span) (pairs : List meaning.Pair) : Type 0 where
  pub near : place_of bs n ≤ length bs
  pub there : r ≡ from_record bs n
  pub noted : paths ≡ rows_of bs n
  pub cut : pairs ≡ first_pairs bs n
  pub sees : seen (count - n) bs n ≡ seen count bs 0
  pub says : tells (count - n) bs n ≡ tells count bs 0

pub walked_none : (bs : List ℕ) (count : ℕ) → 7 ≤ length bs → WalkedTo bs count 0 (drop 7 bs) [] []
unfolding rows_of first_pairs
walked_none bs count h =
    let all : count - 0 ≡ count = omega arith in
    record { near = h; there = refl; noted = refl; cut = refl; sees = ap (λ (m : ℕ). seen m bs 0) all; says = ap (λ (m : ℕ). tells m bs 0) all }

module _ (bs : List ℕ) (count n : ℕ) (r : List ℕ) (paths : List Span) (pairs : List meaning.Pair) (w : WalkedTo bs count n r paths pairs) where
  -- where the rest stands
  pub walked_place : length bs - length r ≡ place_of bs n
  walked_place = omega (arith, ap length w.there, length-drop (place_of bs n) bs, w.near)

  pub walked_rest : length bs - length r + length r ≡ length bs
  walked_rest = omega (arith, ap length w.there, length-drop (place_of bs n) bs, w.near)

  pub walked_noted : length paths ≡ n
  walked_noted = ap length w.noted ∙ length_rows bs n

  pub walked_cut : length pairs ≡ n
  walked_cut = ap length w.cut ∙ length_first bs n

  there : {A : Type 0} (f : List ℕ → A) (a : A) → f r ≡ a → f (from_record bs n) ≡ a
  there f a e = sym (ap f w.there) ∙ e

  sees_on : n < count → seen (suc (count - (n + 1))) bs n ≡ seen count bs 0
  sees_on h = let less : suc (count - (n + 1)) ≡ count - n = omega arith in ap (λ (m : ℕ). seen m bs n) less ∙ w.sees

  says_on : n < count → tells (suc (count - (n + 1))) bs n ≡ tells count bs 0
  says_on h = let less : suc (count - (n + 1)) ≡ count - n = omega arith in ap (λ (m : ℕ). tells m bs n) less ∙ w.says

  same_row : row_from r (length bs - length r) ≡ row_at bs n
  same_row =
      ap (λ (p : ℕ). record { start = p; end = p + (1 + path_size r) }) walked_place
      ∙ ap (λ (k : ℕ). record { start = place_of bs n; end = place_of bs n + (1 + k) }) (ap path_size w.there)

  noted_more : (new : List Span) → new ≡ paths ++ row_from r (length bs - length r) ∷ [] → new ≡ rows_of bs (n + 1)
  noted_more new e = e ∙ rw (same_row, w.noted) (sym (rows_more bs n))

  -- a record breaks a rule
  pub walk_stops : (new : List Span) (rule : Rule) → n < count → EndsAt r (length bs - length r) paths new rule
      → (new ≡ rows_of bs (seen count bs 0)) × (tells count bs 0 ≡ at_place rule (length bs - length r))
  walk_stops new rule h e = ⊎_elim
      (λ p.
      let s = path_stops (count - (n + 1)) bs n rule (there path_fault _ p.0) in
      (p.1 ∙ w.noted ∙ ap (rows_of bs) (sym s.0 ∙ sees_on h), sym (says_on h) ∙ s.1 ∙ ap (at_place rule) (sym walked_place)))
      (λ p.
      let s = body_stops (count - (n + 1)) bs n rule (there path_fault _ p.0) (there body_fault _ p.1) in
      (noted_more new p.2 ∙ ap (rows_of bs) (sym s.0 ∙ sees_on h), sym (says_on h) ∙ s.1 ∙ ap (at_place rule) (sym walked_place)))
      e

  -- a record breaks none
  pub walk_goes : (new : List Span) (pair : Pair) (behind : List ℕ) → n < count → Cuts r (length bs - length r) paths new pair behind
      → WalkedTo bs count (n + 1) behind new (pairs ++ pair_of pair ∷ [])
  walk_goes new pair behind h c =
      let s = walks_on (count - (n + 1)) bs n (there path_fault _ c.path) (there body_fault _ c.body) in
      let room = (body_none (from_record bs n) (there body_fault _ c.body)).2 in
      record {
        near = omega (arith, place_more bs n, room, length-drop (place_of bs n) bs, w.near);
        there = c.rest ∙ rw w.there (from_more bs n);
        noted = noted_more new c.noted;
        cut = rw (c.means, w.there, w.cut) (sym (pairs_more bs n));
        sees = sym s.0 ∙ sees_on h;
        says = sym s.1 ∙ says_on h;
      }

  -- all are walked
  module _ (all : count ≡ n) where
    none : 0 ≡ count - n
    none = omega arith

    pub walk_noted : paths ≡ rows_of bs (seen count bs 0)
    unfolding seen
    walk_noted = w.noted ∙ ap (rows_of bs) (ap (λ (m : ℕ). seen m bs n) none ∙ w.sees)

    pub walk_cut : pairs ≡ first_pairs bs count
    walk_cut = w.cut ∙ ap (first_pairs bs) (sym all)

    ends : tells count bs 0 ≡ ending bs (length bs - length r)
    unfolding tells
    ends = sym (ap (λ (m : ℕ). tells m bs n) none ∙ w.says) ∙ ap (ending bs) (sym walked_place)

    pub walk_clean : length r ≡ 0 → tells count bs 0 ≡ Ok tt
    walk_clean h = ends ∙ cond-false _ _ _ (le-ltb (length bs - length r) (length bs) (omega (arith, walked_rest)))

    pub walk_left : length r ≢ 0 → tells count bs 0 ≡ at_place LeftOver (length bs - length r)
    walk_left h = ends ∙ cond-true _ _ _ (lt-ltb (length bs - length r) (length bs) (omega (arith, walked_rest)))

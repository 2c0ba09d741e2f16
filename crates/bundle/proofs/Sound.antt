-- What holds of the pairs of a reading that ends well.
use Rattle.std.proofs.Common.{◌≡◌, ℕ, zero, suc, ◌+◌, ◌<◌, ◌≤◌, true, List, [], ◌∷◌, ◌++◌, length, get_or, drop, Some, None, Ok, Option, Result, sym, refl, ap, ◌∙◌, subst, zero-le, add-zero, arith, length-append, length-take, below_more}
use native.Mathlib.Decide.{dec_lt}
use Rattle.std.proofs.lemmas.List.{get_or_past, get_or_append_left, get_or_push}
use Rattle.store.specs.Pairs.{Pair, nothing, path_at, Named, Small, Apart}
use Rattle.store.specs.Paths.{lawful_path}
use Rattle.bundle.specs.declared.rules.Rule.{Rule}
use Rattle.bundle.specs.Layout.{path_of, body_of, body_size, behind_path, pair_of, extent, fault, unless, reading, place_of, from_record, first_pairs, Fit}
use Rattle.bundle.proofs.Parts.{path_none, body_none, fault_none}
use Rattle.bundle.proofs.Known.{met_apart}
use Rattle.bundle.proofs.Steps.{reading_at, reading_more, fault_room, place_more}

-- One pair more.
module _ (ps : List Pair) (q : Pair) where
  at_left : (n : ℕ) → n < length ps → get_or (ps ++ q ∷ []) n nothing ≡ get_or ps n nothing
  at_left n h = get_or_append_left ps (q ∷ []) nothing n h

  at_end : get_or (ps ++ q ∷ []) (length ps) nothing ≡ q
  at_end = get_or_push ps q nothing (length ps) refl

  long : length (ps ++ q ∷ []) ≡ length ps + 1
  long = length-append ps (q ∷ [])

  -- what holds of each pair and of one more
  each_more : (P : Pair → Type 0) → ((n : ℕ) → n < length ps → P (get_or ps n nothing)) → P q → (n : ℕ) → n < length ps + 1 → P (get_or (ps ++ q ∷ []) n nothing)
  each_more P old new = below_more _ _ (λ n h. subst P (sym (at_left n h)) (old n h)) (subst P (sym at_end) new)

  pub named_more : Named ps → lawful_path q.path ≡ true → Named (ps ++ q ∷ [])
  named_more old new n h = each_more (λ v. lawful_path v.path ≡ true) old new n (omega (arith, long))

  pub small_more : Small ps → length q.body ≤ 1048576 → Small (ps ++ q ∷ [])
  small_more old new n = elim (dec_lt n (length ps + 1)) [
    | yes k ↦ each_more (λ v. length v.body ≤ 1048576) (λ i _. old i) new n k
    | no k ↦ subst (λ (v : Pair). length v.body ≤ 1048576) (sym (get_or_past (ps ++ q ∷ []) n nothing (omega (arith, long)))) zero-le
  ]

  pub apart_more : Apart ps → ((n : ℕ) → n < length ps → path_at ps n ≡ q.path → ⊥) → Apart (ps ++ q ∷ [])
  apart_more old new i j h e =
      let first : i < length ps = omega (arith, long, h.0, h.1) in
      let left = ap (λ (v : Pair). v.path) (at_left i first) in
      elim (dec_lt j (length ps)) [
        | yes k ↦ old i j (h.0, k) (sym left ∙ e ∙ ap (λ (v : Pair). v.path) (at_left j k))
        | no k ↦
            let last : j ≡ length ps = omega (arith, long, h.1) in
            new i first (sym left ∙ e ∙ ap (λ (n : ℕ). path_at (ps ++ q ∷ []) n) last ∙ ap (λ (v : Pair). v.path) at_end)
      ]

-- lawful among themselves
pub record Sound (ps : List Pair) : Type 0 where
  pub named : Named ps
  pub small : Small ps
  pub apart : Apart ps

pub sound_none : Sound []
sound_none = record { named = λ n h. absurd (omega arith); small = λ n. zero-le; apart = λ i j h. absurd (omega (arith, h.1)) }

-- a body is no longer than its length says
pub body_short : (r : List ℕ) → length (body_of r) ≤ body_size r
unfolding body_of
body_short r = omega (arith, length-take (body_size r) (drop 4 (behind_path r)))

-- a record that breaks no rule gives one more lawful pair
pub sound_more : (ps : List Pair) (r : List ℕ) → fault ps r ≡ None → Sound ps → Sound (ps ++ pair_of r ∷ [])
sound_more ps r e s =
    let f = fault_none ps r e in
    record {
      named = named_more ps (pair_of r) s.named (path_none r f.0).1;
      small = small_more ps (pair_of r) s.small (omega (arith, body_short r, (body_none r f.2).1));
      apart = apart_more ps (pair_of r) s.apart (met_apart ps (path_of r) f.1);
    }

-- Where a reading ends well, each record broke no rule.
went_on : (o : Option Rule) (p : ℕ) (later : Result (List Pair) _) (qs : List Pair) → unless o p later ≡ Ok qs → (o ≡ None) × (later ≡ Ok qs)
went_on None p later qs e = (refl, e)
went_on (Some rule) p later qs e = let z : ◌≡◌ {A = ℕ} 0 1 = cc in absurd (omega arith)

pub reading_first : (n : ℕ) (ps : List Pair) (r : List ℕ) (p : ℕ) (qs : List Pair) → reading (suc n) ps r p ≡ Ok qs
    → (fault ps r ≡ None) × (reading n (ps ++ pair_of r ∷ []) (drop (extent r) r) (p + extent r) ≡ Ok qs)
unfolding reading
reading_first n ps r p qs e = went_on (fault ps r) p _ qs e

pub reading_last : (ps : List Pair) (r : List ℕ) (p : ℕ) (qs : List Pair) → reading 0 ps r p ≡ Ok qs → (r ≡ []) × (ps ≡ qs)
unfolding reading
reading_last ps [] p qs e = (refl, cc)
reading_last ps (b ∷ r) p qs e = let z : ◌≡◌ {A = ℕ} 0 1 = cc in absurd (omega arith)

pub reading_sound : (n : ℕ) (ps : List Pair) (r : List ℕ) (p : ℕ) (qs : List Pair) → reading n ps r p ≡ Ok qs → Sound ps → Sound qs
reading_sound zero ps r p qs e s = subst Sound (reading_last ps r p qs e).1 s
reading_sound (suc n) ps r p qs e s =
    let f = reading_first n ps r p qs e in
    reading_sound n (ps ++ pair_of r ∷ []) (drop (extent r) r) (p + extent r) qs f.1 (sound_more ps r f.0 s)

-- The pairs by number, and the places.
pub record Walked (bs : List ℕ) (n : ℕ) (qs : List Pair) : Type 0 where
  pub pairs : qs ≡ first_pairs bs n
  pub fits : Fit bs n

pub reading_walked : (m : ℕ) (bs : List ℕ) (n : ℕ) (qs : List Pair) → reading_at m bs n ≡ Ok qs → place_of bs n ≤ length bs → Fit bs n → Walked bs (n + m) qs
reading_walked zero bs n qs e h f =
    subst (λ (k : ℕ). Walked bs k qs) (sym (add-zero n)) (record { pairs = sym (reading_last (first_pairs bs n) (from_record bs n) (place_of bs n) qs e).1; fits = f })
reading_walked (suc m) bs n qs e h f =
    let none = (reading_first m (first_pairs bs n) (from_record bs n) (place_of bs n) qs e).0 in
    let room = fault_room (first_pairs bs n) bs (place_of bs n) h none in
    let sum : (n + 1) + m ≡ n + suc m = omega arith in
    subst (λ (k : ℕ). Walked bs k qs) sum
    (reading_walked m bs (n + 1) qs (sym (reading_more m bs n none) ∙ e) (omega (arith, place_more bs n)) (below_more _ _ f room))

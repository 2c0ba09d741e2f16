-- Names in order, where a name that repeats an earlier one stands behind one with its bytes.
use Rattle.std.proofs.Common.{◌≡◌, ℕ, zero, suc, ◌+◌, ◌-◌, ◌<◌, ◌≤◌, true, false, ◌⊎◌, List, length, get_or, take, drop, Bor, Some, None, Option, MatchOption, sym, refl, ap, ◌∙◌, subst, ⊎_elim, arith}
use Rattle.std.specs.Cmp.{IsTotalOrder, IsStrictWeakOrder}
use Rattle.std.specs.Cmp.Lexicographic.{slice_cmp}
use Rattle.std.specs.Ordering.{MatchOrdering, nat_cmp, ordering_then, ordering_reverse, is_lt, is_eq}
use Rattle.std.specs.declared.cmp.Ordering.{Ordering}
use Rattle.std.specs.declared.cmp.Ordering.TheVariants.{Less, Equal, Greater}
use Rattle.std.specs.List.Sorted.{IsPermutation}
use Rattle.std.specs.Slice.Iter.{windows_size, windows_rest, windows_steps}
use Rattle.std.specs.declared.slice.Windows.{Windows}
use Rattle.std.proofs.lemmas.Bool.{cond-true, cond-false, lt-leb, le-leb, cases_lt}
use Rattle.std.proofs.lemmas.Bool.Decides.{nat_tests}
use Rattle.std.proofs.lemmas.Cmp.{nat_cmp_total, nat_list_cmp_total, on_total, then_total, tied_itself}
use Rattle.std.proofs.lemmas.Iterator.{window_more}
use Rattle.std.proofs.lemmas.List.Sorted.{IsPermutation-sym, ranks_by, sorted_far}
use Rattle.std.proofs.lemmas.Map.Text.{is_eq-slice_cmp}
use Rattle.std.proofs.lemmas.Slice.Eq.{bytes_eq-Decides}
use Rattle.std.proofs.ByRecursion.{has_get_or, has_shuffled}
use Rattle.syntax.specs.Bytes.{same}
use Rattle.names.specs.declared.span.Span.{Span}
use Rattle.names.specs.Order.{span_cmp, IsInOrder, sooner}
use Rattle.names.specs.Repeats.{bytes_of, Again, Repeats, FirstRepeat}
use Rattle.names.proofs.Rows.{same_eq, same_refl}

-- the same names in another order have the same first repeat
repeats_moved : (s : List ℕ) (ns ms : List Span) → IsPermutation ns ms → (n : Span) → Repeats s ns n → Repeats s ms n
repeats_moved s ns ms moved n r =
    record { there = has_shuffled ns ms n moved r.there; earlier = r.earlier; earlier_there = has_shuffled ns ms r.earlier moved r.earlier_there; again = r.again }

pub first_moved : (s : List ℕ) (ns ms : List Span) (r : Option Span) → IsPermutation ns ms → FirstRepeat s ms r → FirstRepeat s ns r
first_moved s ns ms None moved h = λ n r. h n (repeats_moved s ns ms moved n r)
first_moved s ns ms (Some n) moved h =
    (repeats_moved s ms ns (IsPermutation-sym ns ms moved) n h.0, λ m r. h.1 m (repeats_moved s ns ms moved m r))

pub span_cmp_total : (s : List ℕ) → IsTotalOrder (span_cmp s)
span_cmp_total s =
    then_total (then_total (on_total (bytes_of s) nat_list_cmp_total) (on_total (λ n. n.start) nat_cmp_total)) (on_total (λ n. n.end) nat_cmp_total)

pub span_ranks : (s : List ℕ) → IsStrictWeakOrder (λ a b. is_lt (span_cmp s a b))
span_ranks s = ranks_by (span_cmp_total s) (λ n. n)

-- a does not come behind b
abbrev Upto : List ℕ → Span → Span → Type 0
Upto s a b = MatchOrdering (slice_cmp nat_cmp (bytes_of s a) (bytes_of s b)) (Unit {0}) ((a.start < b.start) ⊎ ((a.start ≡ b.start) × (a.end ≤ b.end))) ⊥

upto_places : (p q u v : ℕ) → is_lt (ordering_then (nat_cmp q p) (nat_cmp v u)) ≡ false → (p < q) ⊎ ((p ≡ q) × (u ≤ v))
upto_places p q u v h = grind (arith, nat_tests)

upto_parts : (o : Ordering) (p q u v : ℕ) → is_lt (ordering_then (ordering_then (ordering_reverse o) (nat_cmp q p)) (nat_cmp v u)) ≡ false → MatchOrdering o (Unit {0}) ((p < q) ⊎ ((p ≡ q) × (u ≤ v))) ⊥
upto_parts Less p q u v h = tt
upto_parts Equal p q u v h = upto_places p q u v h
upto_parts Greater p q u v h = cc

upto_from : (s : List ℕ) (a b : Span) → is_lt (span_cmp s b a) ≡ false → Upto s a b
upto_from s a b h =
    upto_parts (slice_cmp nat_cmp (bytes_of s a) (bytes_of s b)) a.start b.start a.end b.end
    (subst (λ o. is_lt (ordering_then (ordering_then o (nat_cmp b.start a.start)) (nat_cmp b.end a.end)) ≡ false) (nat_list_cmp_total.antisymm (bytes_of s b) (bytes_of s a)) h)

-- of names with the same bytes the starts decide, and then the ends
upto_alike : (s : List ℕ) (a b : Span) → Upto s a b → bytes_of s a ≡ bytes_of s b → (a.start < b.start) ⊎ ((a.start ≡ b.start) × (a.end ≤ b.end))
upto_alike s a b h e =
    subst (λ o. MatchOrdering o (Unit {0}) ((a.start < b.start) ⊎ ((a.start ≡ b.start) × (a.end ≤ b.end))) ⊥)
    (ap (slice_cmp nat_cmp (bytes_of s a)) (sym e) ∙ tied_itself nat_list_cmp_total (bytes_of s a)) h

level : (o p : Ordering) (E F : Type 0) → MatchOrdering o (Unit {0}) E ⊥ → MatchOrdering p (Unit {0}) F ⊥ → p ≡ ordering_reverse o → o ≡ Equal
level Less p E F h k e = absurd (subst (λ t. MatchOrdering t (Unit {0}) F ⊥) e k)
level Equal p E F h k e = refl
level Greater p E F h k e = absurd h

-- what stands between names with the same bytes has them too
between_alike : (s : List ℕ) (a b c : Span) → Upto s a b → Upto s b c → bytes_of s a ≡ bytes_of s c → bytes_of s a ≡ bytes_of s b
between_alike s a b c h k e =
    let back = ap (slice_cmp nat_cmp (bytes_of s b)) (sym e) ∙ nat_list_cmp_total.antisymm (bytes_of s b) (bytes_of s a) in
    let equal = level (slice_cmp nat_cmp (bytes_of s a) (bytes_of s b)) (slice_cmp nat_cmp (bytes_of s b) (bytes_of s c)) _ _ h k back in
    (bytes_eq-Decides _ _).0 (sym (is_eq-slice_cmp (bytes_of s a) (bytes_of s b)) ∙ ap is_eq equal)

abbrev pub at : List Span → ℕ → Span
at ns k = get_or ns k (record { start = 0; end = 0 })

-- name k + 1 repeats its left neighbour
pub record Beside (s : List ℕ) (ns : List Span) (k : ℕ) : Type 0 where
  pub below : k + 1 < length ns
  pub again : Again s (at ns k) (at ns (k + 1))

-- of the names 1 to i that repeat their left neighbours, the one that ends first
abbrev pub FirstBeside : List ℕ → List Span → ℕ → Option Span → Type 0
FirstBeside s ns i None = (k : ℕ) → k < i → Beside s ns k → ⊥
FirstBeside s ns i (Some n) = ((k : ℕ) × Beside s ns k × (at ns (k + 1) ≡ n)) × ((k : ℕ) → k < i → Beside s ns k → n.end ≤ (at ns (k + 1)).end)

-- one name more
module _ (s : List ℕ) (ns : List Span) (i : ℕ) where
  first_taken : (o : Option Span) (n : Span) → Beside s ns i → at ns (i + 1) ≡ n → MatchOption o (Unit {0}) (λ m. n.end ≤ m.end) → FirstBeside s ns i o → FirstBeside s ns (i + 1) (Some n)
  first_taken None n b e l h =
      ((i, b, e), λ k m x. ⊎_elim (λ y. absurd (h k y x)) (λ y. let z : k ≡ i = omega arith in omega (arith, ap (λ j. (at ns (j + 1)).end) z, ap (λ (w : Span). w.end) e)) (cases_lt k i))
  first_taken (Some f) n b e l h =
      ((i, b, e), λ k m x. ⊎_elim (λ y. omega (arith, l, h.1 k y x)) (λ y. let z : k ≡ i = omega arith in omega (arith, ap (λ j. (at ns (j + 1)).end) z, ap (λ (w : Span). w.end) e)) (cases_lt k i))

  first_kept : (f n : Span) → at ns (i + 1) ≡ n → f.end ≤ n.end → FirstBeside s ns i (Some f) → FirstBeside s ns (i + 1) (Some f)
  first_kept f n e l h =
      (h.0, λ k m x. ⊎_elim (λ y. h.1 k y x) (λ y. let z : k ≡ i = omega arith in omega (arith, ap (λ j. (at ns (j + 1)).end) z, ap (λ (w : Span). w.end) e)) (cases_lt k i))

  pub first_more : (o : Option Span) (n : Span) → Beside s ns i → at ns (i + 1) ≡ n → FirstBeside s ns i o → FirstBeside s ns (i + 1) (Some (sooner o n))
  first_more None n b e h = first_taken None n b e tt h
  first_more (Some f) n b e h =
      ⊎_elim (λ l. subst (λ m. FirstBeside s ns (i + 1) (Some m)) (sym (cond-false _ _ _ (lt-leb _ _ l))) (first_taken (Some f) n b e (omega arith) h))
      (λ l. subst (λ m. FirstBeside s ns (i + 1) (Some m)) (sym (cond-true _ _ _ (le-leb _ _ l))) (first_kept f n e l h))
      (cases_lt n.end f.end)

  pub first_passed : (o : Option Span) → (Beside s ns i → ⊥) → FirstBeside s ns i o → FirstBeside s ns (i + 1) o
  first_passed None p h = λ k m x. ⊎_elim (λ y. h k y x) (λ y. let z : k ≡ i = omega arith in p (subst (Beside s ns) z x)) (cases_lt k i)
  first_passed (Some f) p h =
      (h.0, λ k m x. ⊎_elim (λ y. h.1 k y x) (λ y. let z : k ≡ i = omega arith in absurd (p (subst (Beside s ns) z x))) (cases_lt k i))

-- the windows that are left, of those of two neighbours, and the name found in those before
pub record Walked (s : List ℕ) (ns : List Span) (left : Windows Span) (o : Option Span) : Type 0 where
  pub size : windows_size left ≡ 2
  pub short : length (windows_rest left) ≤ length ns
  pub rest : windows_rest left ≡ drop (length ns - length (windows_rest left)) ns
  pub first : FirstBeside s ns (length ns - length (windows_rest left)) o

-- one window more
module _ (s : List ℕ) (ns : List Span) (v u : Windows Span) (r : Option (Bor (List Span))) (w : Bor (List Span)) (o : Option Span) (is : r ≡ Some w) (steps : windows_steps v r u) (h : Walked s ns v o) where
  i : ℕ
  i = length ns - length (windows_rest v)

  walked_on : (p : Option Span) → (i + 1 < length ns → at w.now 0 ≡ at ns i → at w.now 1 ≡ at ns (i + 1) → FirstBeside s ns i o → FirstBeside s ns (i + 1) p) → Walked s ns u p
  unfolding i
  walked_on p more =
      let m = window_more ns v u r w is steps (omega (arith, h.size)) h.short h.rest in
      let next : i + 1 ≡ length ns - length (windows_rest u) = omega (arith, m.0, m.2, h.size, h.short) in
      let none : length ns - length (windows_rest v) + 0 ≡ i = omega arith in
      record {
        size = steps.0 ∙ h.size;
        short = omega (arith, m.0, h.short);
        rest = m.1;
        first = subst (λ k. FirstBeside s ns k p) next (more (omega (arith, m.2, h.size, h.short)) (m.3 0 _ (omega (arith, h.size)) ∙ ap (at ns) none) (m.3 1 _ (omega (arith, h.size))) h.first);
      }

  pub walked_taken : Again s (at w.now 0) (at w.now 1) → Walked s ns u (Some (sooner o (at w.now 1)))
  unfolding i
  walked_taken g = walked_on (Some (sooner o (at w.now 1))) (λ l a b f. first_more s ns i o (at w.now 1) (record { below = l; again = subst (Again s (at ns i)) b (subst (λ m. Again s m (at w.now 1)) a g) }) (sym b) f)

  pub walked_passed : (Again s (at w.now 0) (at w.now 1) → ⊥) → Walked s ns u o
  unfolding i
  walked_passed g = walked_on o (λ l a b f. first_passed s ns i o (λ x. g (subst (Again s (at w.now 0)) (sym b) (subst (λ m. Again s m (at ns (i + 1))) (sym a) x.again))) f)

module _ (s : List ℕ) (ns : List Span) (up : IsInOrder s ns) where
  upto : (i j : ℕ) → i ≤ j → j < length ns → Upto s (at ns i) (at ns j)
  upto i j l m = upto_from s (at ns i) (at ns j) (sorted_far (λ a b. is_lt (span_cmp s a b)) (span_ranks s) ns up i j _ l m)

  -- where a name repeats an earlier one, some name that ends no later repeats its left neighbour
  beside_before : (j i : ℕ) → i ≤ j → j < length ns → Again s (at ns i) (at ns j) → (k : ℕ) × Beside s ns k × ((at ns (k + 1)).end ≤ (at ns j).end)
  beside_before zero i l m g = absurd (let e : i ≡ 0 = omega arith in omega (arith, g.before, ap (λ k. (at ns k).start) e))
  beside_before (suc j) i l m g =
      let more : suc j ≡ j + 1 = omega arith in
      let alike = same_eq _ _ g.alike in
      ⊎_elim
      (λ h.
      let near = between_alike s (at ns i) (at ns j) (at ns (suc j)) (upto i j (omega arith) (omega arith)) (upto j (suc j) (omega arith) m) alike in
      ⊎_elim
      (λ x. (
        j,
        record { below = omega arith; again = subst (λ k. Again s (at ns j) (at ns k)) more (record { before = x; alike = subst (λ b. same b (bytes_of s (at ns (suc j))) ≡ true) near g.alike }) },
        omega (arith, ap (λ k. (at ns k).end) more),
      ))
      (λ x.
      let rest = beside_before j i (omega arith) (omega arith) (record { before = omega (arith, g.before, x.0); alike = subst (λ b. same (bytes_of s (at ns i)) b ≡ true) near (same_refl (bytes_of s (at ns i))) }) in
      (rest.0, rest.1, omega (arith, rest.2, x.1)))
      (upto_alike s (at ns j) (at ns (suc j)) (upto j (suc j) (omega arith) m) (sym near ∙ alike)))
      (λ h. absurd (let e : i ≡ suc j = omega arith in omega (arith, g.before, ap (λ k. (at ns k).start) e)))
      (cases_lt i (suc j))

  repeat_beside : (n : Span) → Repeats s ns n → (k : ℕ) × Beside s ns k × ((at ns (k + 1)).end ≤ n.end)
  repeat_beside n r =
      let i = r.earlier_there.0 in
      let j = r.there.0 in
      let is = r.there.2 (record { start = 0; end = 0 }) in
      let again : Again s (at ns i) (at ns j) = subst (λ w. Again s w (at ns j)) (sym (r.earlier_there.2 _)) (subst (Again s r.earlier) (sym is) r.again) in
      ⊎_elim
      (λ h. absurd (⊎_elim (λ x. omega (arith, x, again.before)) (λ x. omega (arith, x.0, again.before)) (upto_alike s (at ns j) (at ns i) (upto j i (omega arith) r.earlier_there.1) (sym (same_eq _ _ again.alike)))))
      (λ h. let b = beside_before j i h r.there.1 again in (b.0, b.1, omega (arith, b.2, ap (λ (w : Span). w.end) is)))
      (cases_lt j i)

  beside_repeats : (k : ℕ) → Beside s ns k → Repeats s ns (at ns (k + 1))
  beside_repeats k b =
      record { there = has_get_or ns (k + 1) _ b.below; earlier = at ns k; earlier_there = has_get_or ns k _ (omega (arith, b.below)); again = b.again }

  first_all : (i : ℕ) (o : Option Span) → length ns ≤ i + 1 → FirstBeside s ns i o → FirstRepeat s ns o
  first_all i None l h = λ n r. let b = repeat_beside n r in h b.0 (omega (arith, b.1.below)) b.1
  first_all i (Some n) l h =
      (subst (Repeats s ns) h.0.2 (beside_repeats h.0.0 h.0.1), λ m r. let b = repeat_beside m r in omega (arith, h.1 b.0 (omega (arith, b.1.below)) b.1, b.2))

  -- no window more
  pub walked_all : (v u : Windows Span) (r : Option (Bor (List Span))) (o : Option Span) → r ≡ None → windows_steps v r u → Walked s ns v o → FirstRepeat s ns o
  walked_all v u r o is steps h =
      let end : (length (windows_rest v) < windows_size v) × (u ≡ v) = subst (λ x. MatchOption x ((length (windows_rest v) < windows_size v) × (u ≡ v)) (λ y. (windows_size v ≤ length (windows_rest v)) × (y.now ≡ take (windows_size v) (windows_rest v)) × (windows_rest u ≡ drop 1 (windows_rest v)) × (length y.now ≡ windows_size v))) is steps.1 in
      first_all (length ns - length (windows_rest v)) o (omega (arith, end.0, h.size)) h.first

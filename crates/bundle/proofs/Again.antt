-- Repeated paths among the records, and repeated rows.
use Rattle.std.proofs.Common.{◌≡◌, ℕ, zero, suc, ◌+◌, ◌-◌, ◌<◌, ◌≤◌, true, false, List, [], length, take, drop, Some, None, sym, ap, ◌∙◌, subst, ⊎_elim, arith, length-drop}
use Rattle.std.specs.List.{ContainsAt}
use Rattle.std.proofs.lemmas.Bool.{cases_eq, cases_order, cases_Bool}
use Rattle.std.proofs.ByRecursion.{has_get_or}
use Rattle.store.specs.Pairs.{Pair}
use Rattle.names.specs.declared.span.Span.{Span}
use Rattle.names.specs.Repeats.{bytes_of, Repeats, FirstRepeat}
use Rattle.names.proofs.Rows.{bytes_inside, same_eq, same_refl}
use Rattle.bundle.specs.declared.rules.Rule.TheVariants.{RepeatedPath}
use Rattle.bundle.specs.Layout.{path_of, path_fault, extent, path_length, place_of, from_record, first_pairs, reading, told}
use Rattle.bundle.specs.Rows.{seen, tells, row_at, rows_of}
use Rattle.bundle.proofs.Parts.{path_none}
use Rattle.bundle.proofs.Known.{met_where, met_found}
use Rattle.bundle.proofs.Steps.{length_first, first_at}
use Rattle.bundle.proofs.Opened.{path_part}
use Rattle.bundle.proofs.Aside.{at_place, repeats_path, seen_fine, seen_near, walk_new, walk_old}
use Rattle.bundle.proofs.Walks.{rows_at, length_rows}

-- a row ends before the next one begins
pub row_before : (bs : List ℕ) (i j : ℕ) → i < j → (row_at bs i).end < place_of bs j
unfolding extent
row_before bs i zero h = absurd (omega arith)
row_before bs i (suc j) h =
    ⊎_elim (λ e. subst (λ (k : ℕ). (row_at bs k).end < place_of bs (suc j)) (sym e) (omega arith))
    (λ ne. omega (arith, row_before bs i j (omega arith)))
    (cases_eq i j)

-- places rise with the numbers of the records
place_up : (bs : List ℕ) (i j : ℕ) → i < j → place_of bs i < place_of bs j
place_up bs i j h = omega (arith, row_before bs i j h)

pub place_order : (bs : List ℕ) (i j : ℕ) → place_of bs i < place_of bs j → i < j
place_order bs i j h = ⊎_elim
    (λ e. absurd (omega (arith, ap (place_of bs) e)))
    (⊎_elim (λ l. l) (λ l. absurd (omega (arith, place_up bs j i l)))) (cases_order i j)

-- the bytes of a row are the path of its record
pub row_bytes : (bs : List ℕ) (k : ℕ) → place_of bs k + (1 + path_length bs k) ≤ length bs → bytes_of bs (row_at bs k) ≡ path_of (from_record bs k)
row_bytes bs k h =
    let p = place_of bs k in
    let n = path_length bs k in
    let size : p + (1 + n) - (p + 1) ≡ n = omega arith in
    bytes_inside bs (row_at bs k) (omega arith) h
    ∙ ap (λ (m : ℕ). take m (drop (p + 1) bs)) size
    ∙ sym (path_part bs k)

-- The rows of the first s records, whose paths are whole.
module _ (bs : List ℕ) (s : ℕ) (fine : (k : ℕ) → k < s → path_fault (from_record bs k) ≡ None) (near : (k : ℕ) → k < s → place_of bs k ≤ length bs) where
  rows : List Span
  rows = rows_of bs s

  its_bytes : (k : ℕ) → k < s → bytes_of bs (row_at bs k) ≡ path_of (from_record bs k)
  its_bytes k h = row_bytes bs k (omega (arith, (path_none (from_record bs k) (fine k h)).0, length-drop (place_of bs k) bs, near k h))

  row_there : (k : ℕ) → k < s → ContainsAt rows (row_at bs k)
  unfolding rows
  row_there k h = subst (ContainsAt rows) (rows_at bs s k (row_at bs k) h) (has_get_or rows k (row_at bs k) (omega (arith, length_rows bs s)))

  there_row : (x : Span) → ContainsAt rows x → (k : ℕ) × (k < s) × (x ≡ row_at bs k)
  unfolding rows
  there_row x h = let l : h.0 < s = omega (arith, h.1, length_rows bs s) in (h.0, l, sym (h.2 x) ∙ rows_at bs s h.0 x l)

  -- a record that repeats a path has a row that repeats one
  old_repeats : (j : ℕ) → j < s → repeats_path bs j ≡ true → Repeats bs rows (row_at bs j)
  old_repeats j h e =
      let w = met_where (first_pairs bs j) (path_of (from_record bs j)) e in
      let i = w.0 in
      let less : i < j = omega (arith, w.1, length_first bs j) in
      let i-in : i < s = omega arith in
      let path : path_of (from_record bs i) ≡ path_of (from_record bs j) = sym (ap (λ (q : Pair). q.path) (first_at bs j i less)) ∙ w.2 in
      let like : bytes_of bs (row_at bs i) ≡ bytes_of bs (row_at bs j) = its_bytes i i-in ∙ path ∙ sym (its_bytes j h) in
      record {
        there = row_there j h;
        earlier = row_at bs i;
        earlier_there = row_there i i-in;
        again = record { before = omega (arith, row_before bs i j less); alike = rw like (same_refl (bytes_of bs (row_at bs j))) };
      }

  -- and the other way round
  repeats_old : (n : Span) → Repeats bs rows n → (j : ℕ) × (j < s) × (repeats_path bs j ≡ true) × (n ≡ row_at bs j)
  repeats_old n r =
      let a = there_row n r.there in
      let b = there_row r.earlier r.earlier_there in
      let j = a.0 in
      let i = b.0 in
      let starts : place_of bs i < place_of bs j =
      omega (arith, r.again.before, ap (λ (v : Span). v.start) a.2, ap (λ (v : Span). v.start) b.2) in
      let less : i < j = place_order bs i j starts in
      let path : path_of (from_record bs i) ≡ path_of (from_record bs j) =
      sym (its_bytes i b.1) ∙ sym (ap (bytes_of bs) b.2) ∙ same_eq _ _ r.again.alike ∙ ap (bytes_of bs) a.2 ∙ its_bytes j a.1 in (
        j,
        a.1,
        met_found (first_pairs bs j) (path_of (from_record bs j)) i (omega (arith, length_first bs j)) (ap (λ (v : Pair). v.path) (first_at bs j i less) ∙ path),
        a.2,
      )

  -- where no row repeats another, no record repeats a path
  none_old : FirstRepeat bs rows None → (j : ℕ) → j < s → repeats_path bs j ≡ false
  none_old none j h = ⊎_elim (λ e. absurd (none _ (old_repeats j h e))) (λ e. e) (cases_Bool (repeats_path bs j))

  -- where one does, the first of them is the first record that does
  first_old : (row : Span) → FirstRepeat bs rows (Some row)
      → (j : ℕ) × (j < s) × (repeats_path bs j ≡ true) × ((i : ℕ) → i < j → repeats_path bs i ≡ false) × (place_of bs j ≡ row.start)
  first_old row f =
      let o = repeats_old row f.0 in
      let j = o.0 in (
        j,
        o.1,
        o.2,
        λ i l. ⊎_elim
            (λ e. absurd (omega (arith, ap (λ (v : Span). v.end) o.3, f.1 _ (old_repeats i (omega (arith, o.1)) e), row_before bs i j l)))
            (λ e. e) (cases_Bool (repeats_path bs i)),
        sym (ap (λ (v : Span). v.start) o.3),
      )

-- What the check of the records tells, by the paths that the walk has noted.
module _ (bs : List ℕ) (count : ℕ) (long : 7 ≤ length bs) where
  s : ℕ
  s = seen count bs 0

  fine : (k : ℕ) → k < s → path_fault (from_record bs k) ≡ None
  unfolding s
  fine k h = seen_fine count bs 0 k (omega arith) h

  near : (k : ℕ) → k < s → place_of bs k ≤ length bs
  unfolding s
  near k h = seen_near count bs 0 k long (omega arith) h

  pub tells_walk : FirstRepeat bs (rows_of bs (seen count bs 0)) None → tells count bs 0 ≡ told (reading count [] (drop 7 bs) 7)
  unfolding first_pairs rows s
  tells_walk none = sym (walk_new count bs 0 (λ j _ l. none_old bs s fine near none j l))

  pub tells_repeat : (row : Span) → FirstRepeat bs (rows_of bs (seen count bs 0)) (Some row) → told (reading count [] (drop 7 bs) 7) ≡ at_place RepeatedPath row.start
  unfolding first_pairs rows s
  tells_repeat row f =
      let o = first_old bs s fine near row f in
      walk_old count bs 0 o.0 (omega arith) o.1 o.2 (λ i _ l. o.3 i l) ∙ ap (at_place RepeatedPath) o.4

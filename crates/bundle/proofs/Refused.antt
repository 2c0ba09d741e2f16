-- A refusal is the first broken rule.
use Rattle.std.proofs.Common.{◌≡◌, ℕ, zero, suc, ◌+◌, ◌-◌, ◌*◌, ◌/◌, ◌%◌, ◌<◌, ◌≤◌, true, false, List, [], ◌∷◌, ◌++◌, length, drop, Some, None, Err, Option, Result, sym, refl, ap, ◌∙◌, subst, ⊎_elim, append_assoc, add-zero, one-add, arith, length-append, length-drop}
use Rattle.std.specs.List.{flat_map}
use Rattle.std.proofs.lemmas.List.{append-nil, take_at, drop_at}
use Rattle.std.proofs.lemmas.Bool.{cases_lt, cases_Bool, both_ways}
use Rattle.store.specs.Pairs.{Pair, Lawful, Found, Finds}
use Rattle.store.specs.Paths.{lawful_path}
use Rattle.bundle.specs.declared.rules.Rule.{Rule}
use Rattle.bundle.specs.declared.rules.Rule.TheVariants.{CutShort, UnlawfulPath, RepeatedPath, LongBody, LeftOver}
use Rattle.bundle.specs.declared.rules.Refusal.{Refusal}
use Rattle.bundle.specs.Layout.{head, in_two, in_four, four, record_of, written, path_size, path_of, behind_path, body_size, extent, pair_of, met, path_fault, body_fault, fault, unless, refused, reading, Headed, headed, count_of, checked}
use Rattle.bundle.specs.Laws.{Bytes, OpensNew, Breaks, no_length, path_ends, unlawful, repeated, length_ends, long, body_ends, FirstBroken, too_long, other_head, too_many, in_record, left_over, FirstRule}
use Rattle.bundle.proofs.Numbers.{four_back}
use Rattle.bundle.proofs.Known.{met_none, met_where, met_found, met_apart}
use Rattle.bundle.proofs.Parts.{length_behind, path_cut, path_unlawful, path_fine, size_cut, body_long, body_cut, body_fine, fault_path, fault_met, fault_body}
use Rattle.bundle.proofs.Steps.{reading_stops, reading_left}
use Rattle.bundle.proofs.Sound.{Sound, sound_none, sound_more}
use Rattle.bundle.proofs.Front.{headed_there, headed_true, headed_false, headed_count, checked_long, checked_head, checked_many, checked_records}
use Rattle.bundle.proofs.Writing.{extent_back, bytes_drop, path_split, size_split, writes_back}
use Rattle.bundle.proofs.Back.{reads_on, lawful_sound, front_back}

-- two faults of one record are the same
one_rule : (o : Option Rule) (a b : Rule) → o ≡ Some a → o ≡ Some b → a ≡ b
one_rule o a b p q = cc

cut_of : (ps : List Pair) (r : List ℕ) → length r < 1 + path_size r → Breaks ps r CutShort
cut_of ps [] h = no_length refl
cut_of ps (n ∷ rest) h = path_ends n rest refl (omega arith)

no_fault : {A : Type 0} {o : Option Rule} (rule : Rule) → o ≡ None → o ≡ Some rule → A
no_fault rule p q = let z : ◌≡◌ {A = ℕ} 0 1 = cc in absurd (omega arith)

module _ (ps : List Pair) (r : List ℕ) (s : Bytes r) where
  -- a rule that the record breaks first, where another one is told
  told_rule : (a rule : Rule) → Breaks ps r a → fault ps r ≡ Some a → fault ps r ≡ Some rule → Breaks ps r rule
  told_rule a rule b e f = subst (Breaks ps r) (one_rule (fault ps r) a rule e f) b

  -- behind a whole, lawful and new path
  body_breaks : (rule : Rule) → 1 + path_size r ≤ length r → OpensNew ps r (path_of r) (behind_path r) → fault ps r ≡ body_fault r → fault ps r ≡ Some rule → Breaks ps r rule
  unfolding extent
  body_breaks rule h o e f =
      let path = path_of r in
      let t = behind_path r in
      let n = body_size r in
      ⊎_elim
      (λ l. told_rule CutShort rule (length_ends path t o l) (e ∙ size_cut r l) f)
      (λ l.
      let o' : OpensNew ps r path (in_four n ++ drop 4 t) =
      record { begins = o.begins ∙ ap (λ (v : List ℕ). length path ∷ (path ++ v)) (size_split r s l); named = o.named; new = o.new } in
      ⊎_elim
      (λ m. told_rule LongBody rule (long path (drop 4 t) n o' m) (e ∙ body_long r l m) f)
      (λ m. ⊎_elim
      (λ k. told_rule CutShort rule (body_ends path (drop 4 t) n o' m (omega (arith, length-drop 4 t, length_behind r))) (e ∙ body_cut r l m k) f)
      (λ k. no_fault rule (e ∙ body_fine r l m k) f)
      (cases_lt (length r) (extent r)))
      (cases_lt 1048576 n))
      (cases_lt (length t) 4)

  pub fault_breaks : (rule : Rule) → fault ps r ≡ Some rule → Breaks ps r rule
  fault_breaks rule f =
      ⊎_elim
      (λ h. told_rule CutShort rule (cut_of ps r h) (fault_path ps r CutShort (path_cut r h)) f)
      (λ h.
      let begins = path_split r s h in
      ⊎_elim
      (λ named.
      let fine = path_fine r h named in
      ⊎_elim
      (λ m.
      let w = met_where ps (path_of r) m in
      told_rule RepeatedPath rule (repeated (path_of r) (behind_path r) w.0 begins named (record { within = w.1; same = w.2 })) (fault_met ps r fine m) f)
      (λ m. body_breaks rule h (record { begins = begins; named = named; new = met_apart ps (path_of r) m }) (fault_body ps r fine m) f)
      (cases_Bool (met ps (path_of r))))
      (λ bad. told_rule UnlawfulPath rule (unlawful (path_of r) (behind_path r) begins bad) (fault_path ps r UnlawfulPath (path_unlawful r h bad)) f)
      (cases_Bool (lawful_path (path_of r))))
      (cases_lt (length r) (1 + path_size r))

-- Where a reading ends in a refusal: behind the records of lawful pairs, at a record that breaks a rule, or at bytes left over.
data Stops (n : ℕ) (ps : List Pair) (r : List ℕ) (p : ℕ) (e : Refusal) : Type 0 where
  stops : (rule : Rule) (xs : List Pair) (t : List ℕ) → r ≡ flat_map record_of xs ++ t → Sound (ps ++ xs) → length xs < n → Breaks (ps ++ xs) t rule
      → e ≡ record { rule = rule; place = p + length (flat_map record_of xs) } → Stops n ps r p e
  leaves : (xs : List Pair) (t : List ℕ) → r ≡ flat_map record_of xs ++ t → Sound (ps ++ xs) → length xs ≡ n → 0 < length t
      → e ≡ record { rule = LeftOver; place = p + length (flat_map record_of xs) } → Stops n ps r p e

same_error : (d e : Refusal) → ◌≡◌ {A = Result (List Pair) Refusal} (Err d) (Err e) → e ≡ d
same_error d e q = cc

-- one record more in front
module _ (n : ℕ) (ps : List Pair) (r : List ℕ) (p : ℕ) (e : Refusal) (b : Bytes r) (none : fault ps r ≡ None) where
  whole : r ≡ record_of (pair_of r) ++ drop (extent r) r
  whole = writes_back r b ps none

  size : extent r ≡ length (record_of (pair_of r))
  size = ap extent whole ∙ extent_back (pair_of r) (drop (extent r) r)

  joins : (xs : List Pair) (t : List ℕ) → drop (extent r) r ≡ flat_map record_of xs ++ t → r ≡ (record_of (pair_of r) ++ flat_map record_of xs) ++ t
  joins xs t q = whole ∙ ap (λ (v : List ℕ). record_of (pair_of r) ++ v) q ∙ sym (append_assoc (record_of (pair_of r)) (flat_map record_of xs) t)

  place_on : (rule : Rule) (xs : List Pair) → e ≡ record { rule = rule; place = p + extent r + length (flat_map record_of xs) }
      → e ≡ record { rule = rule; place = p + length (record_of (pair_of r) ++ flat_map record_of xs) }
  place_on rule xs q =
      let sum : p + extent r + length (flat_map record_of xs) ≡ p + length (record_of (pair_of r) ++ flat_map record_of xs) =
      omega (arith, size, length-append (record_of (pair_of r)) (flat_map record_of xs)) in
      q ∙ ap (λ (k : ℕ). record { rule = rule; place = k }) sum

  one_more : Stops n (ps ++ pair_of r ∷ []) (drop (extent r) r) (p + extent r) e → Stops (suc n) ps r p e
  one_more (stops rule xs t is sound less breaks at) =
      let same = append_assoc ps (pair_of r ∷ []) xs in
      stops rule (pair_of r ∷ xs) t (joins xs t is) (subst Sound same sound) (omega arith) (subst (λ (v : List Pair). Breaks v t rule) same breaks) (place_on rule xs at)
  one_more (leaves xs t is sound full some at) =
      leaves (pair_of r ∷ xs) t (joins xs t is) (subst Sound (append_assoc ps (pair_of r ∷ []) xs) sound) (ap suc full) some (place_on LeftOver xs at)

-- the first record breaks a rule, or the reading goes on
by_fault : (n : ℕ) (ps : List Pair) (r : List ℕ) (p : ℕ) (e : Refusal) (later : Result (List Pair) Refusal) (o : Option Rule)
    → Bytes r → Sound ps → fault ps r ≡ o → unless o p later ≡ Err e → (fault ps r ≡ None → later ≡ Err e → Stops (suc n) ps r p e) → Stops (suc n) ps r p e
by_fault n ps r p e later None b s f q on = on f q
by_fault n ps r p e later (Some rule) b s f q on =
    let same = sym (append-nil ps) in
    let at : p ≡ p + 0 = omega arith in
    stops rule [] r refl (subst Sound same s) (omega arith) (subst (λ (v : List Pair). Breaks v r rule) same (fault_breaks ps r b rule f))
    (same_error (record { rule = rule; place = p }) e q ∙ ap (λ (k : ℕ). record { rule = rule; place = k }) at)

reading_refused : (n : ℕ) (ps : List Pair) (r : List ℕ) (p : ℕ) (e : Refusal) → reading n ps r p ≡ Err e → Bytes r → Sound ps → Stops n ps r p e
unfolding reading
reading_refused zero ps [] p e q b s = let z : ◌≡◌ {A = ℕ} 0 1 = cc in absurd (omega arith)
reading_refused zero ps (c ∷ r) p e q b s =
    let at : p ≡ p + 0 = omega arith in
    leaves [] (c ∷ r) refl (subst Sound (sym (append-nil ps)) s) refl (omega arith)
    (same_error (record { rule = LeftOver; place = p }) e q ∙ ap (λ (k : ℕ). record { rule = LeftOver; place = k }) at)
reading_refused (suc n) ps r p e q b s =
    by_fault n ps r p e (reading n (ps ++ pair_of r ∷ []) (drop (extent r) r) (p + extent r)) (fault ps r) b s refl q
    (λ none later. one_more n ps r p e b none
    (reading_refused n (ps ++ pair_of r ∷ []) (drop (extent r) r) (p + extent r) e later (bytes_drop r (extent r) b) (sound_more ps r none s)))

-- From a refusal to the broken rule.
no_count : (rest : List ℕ) → headed (head ++ rest) ≡ false → length rest < 2
no_count [] h = omega arith
no_count (a ∷ []) h = omega arith
no_count (a ∷ c ∷ t) h =
    let w = headed_true (head ++ (a ∷ c ∷ t)) (a * 256 + c) (record { high = a; low = c; rest = t; is = refl; counts = refl }) in
    absurd (both_ways _ h w)

few_lawful : (xs : List Pair) → Sound xs → length xs ≤ 1024 → Lawful xs
few_lawful xs s h = record { few = h; named = s.named; small = s.small; apart = s.apart }

stops_broken : (bs : List ℕ) (n : ℕ) (e : Refusal) → length bs ≤ 16777216 → n ≤ 1024 → bs ≡ head ++ (in_two n ++ drop 7 bs)
    → Stops n [] (drop 7 bs) 7 e → FirstBroken bs e.rule e.place
unfolding written
stops_broken bs n e short few front (stops rule xs t is sound less breaks at) =
    subst (λ (v : Refusal). FirstBroken bs v.rule v.place) (sym at)
    (in_record n xs t short few less (few_lawful xs sound (omega arith)) (front ∙ ap (λ (v : List ℕ). head ++ (in_two n ++ v)) is) breaks)
stops_broken bs n e short few front (leaves xs t is sound full some at) =
    let place : length (written xs) ≡ 7 + length (flat_map record_of xs) = omega arith in
    subst (λ (v : Refusal). FirstBroken bs v.rule v.place) (sym (at ∙ ap (λ (k : ℕ). record { rule = LeftOver; place = k }) (sym place)))
    (left_over xs t short (few_lawful xs sound (omega arith))
    (front ∙ ap (λ (v : List ℕ). head ++ (in_two n ++ v)) is ∙ ap (λ (k : ℕ). head ++ (in_two k ++ (flat_map record_of xs ++ t))) (sym full)) some)

refused_broken : (bs : List ℕ) (e : Refusal) → Bytes bs → checked bs ≡ Err e → FirstBroken bs e.rule e.place
refused_broken bs e b q =
    let at = λ (d : Refusal) (p : checked bs ≡ Err d) (f : FirstBroken bs d.rule d.place).
    subst (λ (v : Refusal). FirstBroken bs v.rule v.place) (sym (same_error d e (sym p ∙ q))) f in
    ⊎_elim
    (λ l. at _ (checked_long bs l) (too_long l))
    (λ l. ⊎_elim
    (λ f.
    let front = front_back bs (count_of bs) (headed_there bs f) b in
    ⊎_elim
    (λ m. at _ (checked_many bs l f m) (too_many (count_of bs) (drop 7 bs) l front m))
    (λ m. stops_broken bs (count_of bs) e l m front
    (reading_refused (count_of bs) [] (drop 7 bs) 7 e (sym (checked_records bs l f m) ∙ q) (bytes_drop bs 7 b) sound_none))
    (cases_lt 1024 (count_of bs)))
    (λ f. at _ (checked_head bs l f) (other_head l (λ rest is. no_count rest (ap headed (sym is) ∙ f))))
    (cases_Bool (headed bs)))
    (cases_lt 16777216 (length bs))

-- From the broken rule to the refusal.
module _ (path rest : List ℕ) where
  -- bytes that begin with a whole path
  with_path : List ℕ
  with_path = length path ∷ (path ++ rest)

  path_read : path_of with_path ≡ path
  unfolding path_of with_path
  path_read = take_at path rest (length path) refl

  behind_read : behind_path with_path ≡ rest
  unfolding behind_path with_path
  behind_read = rw (one-add (length path)) (drop_at path rest (length path) refl)

  path_room : 1 + path_size with_path ≤ length with_path
  unfolding with_path
  path_room = omega (arith, length-append path rest)

  length_read : length with_path ≡ 1 + length path + length rest
  unfolding with_path
  length_read = omega (arith, length-append path rest)

  size_read : path_size with_path ≡ length path
  unfolding with_path
  size_read = refl

  named_read : lawful_path path ≡ true → path_fault with_path ≡ None
  named_read e = path_fine with_path path_room (ap lawful_path path_read ∙ e)

  unlawful_read : (ps : List Pair) → lawful_path path ≡ false → fault ps with_path ≡ Some UnlawfulPath
  unlawful_read ps e = fault_path ps with_path UnlawfulPath (path_unlawful with_path path_room (ap lawful_path path_read ∙ e))

  repeated_read : (ps : List Pair) (n : ℕ) → lawful_path path ≡ true → Found ps path n → fault ps with_path ≡ Some RepeatedPath
  repeated_read ps n e f = fault_met ps with_path (named_read e) (ap (met ps) path_read ∙ met_found ps path n f.within f.same)

  new_read : (ps : List Pair) → lawful_path path ≡ true → Finds ps path None → fault ps with_path ≡ body_fault with_path
  new_read ps e f = fault_body ps with_path (named_read e) (ap (met ps) path_read ∙ met_none ps path f)

-- bytes that begin with a whole path and a body's length
module _ (path rest : List ℕ) (n : ℕ) where
  with_size : List ℕ
  with_size = with_path path (in_four n ++ rest)

  body_size_read : body_size with_size ≡ n
  unfolding body_size with_size
  body_size_read = ap four (behind_read path (in_four n ++ rest)) ∙ four_back n rest

  size_room : 4 ≤ length (behind_path with_size)
  unfolding with_size
  size_room = rw (behind_read path (in_four n ++ rest)) (omega arith)

  long_read : 1048576 < n → body_fault with_size ≡ Some LongBody
  long_read h = body_long with_size size_room (omega (arith, body_size_read))

  cut_read : n ≤ 1048576 → length rest < n → body_fault with_size ≡ Some CutShort
  unfolding extent with_size
  cut_read h l =
      body_cut with_size size_room (omega (arith, body_size_read))
      (omega (arith, body_size_read, size_read path (in_four n ++ rest), length_read path (in_four n ++ rest)))

breaks_fault : (ps : List Pair) (r : List ℕ) (rule : Rule) → Breaks ps r rule → fault ps r ≡ Some rule
unfolding with_path with_size
breaks_fault ps r _ (no_length is) = fault_path ps r CutShort (path_cut r (rw is (omega arith)))
breaks_fault ps r _ (path_ends n rest is h) = fault_path ps r CutShort (path_cut r (rw is (omega arith)))
breaks_fault ps r _ (unlawful path rest is e) = ap (fault ps) is ∙ unlawful_read path rest ps e
breaks_fault ps r _ (repeated path rest n is e f) = ap (fault ps) is ∙ repeated_read path rest ps n e f
breaks_fault ps r _ (length_ends path rest o h) =
    ap (fault ps) o.begins ∙ new_read path rest ps o.named o.new ∙ size_cut (with_path path rest) (rw (behind_read path rest) h)
breaks_fault ps r _ (long path rest n o h) = ap (fault ps) o.begins ∙ new_read path (in_four n ++ rest) ps o.named o.new ∙ long_read path rest n h
breaks_fault ps r _ (body_ends path rest n o h l) = ap (fault ps) o.begins ∙ new_read path (in_four n ++ rest) ps o.named o.new ∙ cut_read path rest n h l

-- a count in two bytes behind the head
counted_head : (bs : List ℕ) (n : ℕ) (rest : List ℕ) → bs ≡ head ++ (in_two n ++ rest) → Headed bs n
counted_head bs n rest is = record { high = n / 256; low = n % 256; rest = rest; is = is; counts = omega arith }

read_from : (bs : List ℕ) (n : ℕ) (rest : List ℕ) → length bs ≤ 16777216 → n ≤ 1024 → bs ≡ head ++ (in_two n ++ rest) → checked bs ≡ reading n [] rest 7
read_from bs n rest short few is =
    let w = counted_head bs n rest is in
    let count = headed_count bs n w in
    checked_records bs short (headed_true bs n w) (omega arith)
    ∙ ap (λ (k : ℕ). reading k [] (drop 7 bs) 7) (sym count)
    ∙ ap (λ (v : List ℕ). reading n [] v 7) (ap (drop 7) is)

broken_refused : (bs : List ℕ) (rule : Rule) (place : ℕ) → FirstBroken bs rule place → checked bs ≡ refused rule place
unfolding written
broken_refused bs _ _ (too_long h) = checked_long bs h
broken_refused bs _ _ (other_head h none) =
    checked_head bs h (headed_false bs (λ n w. let l = none (w.high ∷ w.low ∷ w.rest) w.is in absurd (omega arith)))
broken_refused bs _ _ (too_many n rest h is m) =
    let w = counted_head bs n rest is in
    checked_many bs h (headed_true bs n w) (omega (arith, headed_count bs n w))
broken_refused bs rule _ (in_record n ps r h few less lawful is breaks) =
    let left : n ≡ length ps + suc (n - length ps - 1) = omega arith in
    read_from bs n (flat_map record_of ps ++ r) h few is
    ∙ ap (λ (k : ℕ). reading k [] (flat_map record_of ps ++ r) 7) left
    ∙ reads_on ps [] (suc (n - length ps - 1)) r 7 (lawful_sound ps lawful)
    ∙ reading_stops (n - length ps - 1) ps r (7 + length (flat_map record_of ps)) rule (breaks_fault ps r rule breaks)
broken_refused bs _ _ (left_over ps r h lawful is some) =
    let place : 7 + length (flat_map record_of ps) ≡ length (written ps) = omega arith in
    read_from bs (length ps) (flat_map record_of ps ++ r) h lawful.few is
    ∙ ap (λ (k : ℕ). reading k [] (flat_map record_of ps ++ r) 7) (sym (add-zero (length ps)))
    ∙ reads_on ps [] 0 r 7 (lawful_sound ps lawful)
    ∙ reading_left ps r (7 + length (flat_map record_of ps)) some
    ∙ ap (refused LeftOver) place

pub first_rule : FirstRule
first_rule bs e b = (refused_broken bs e b, broken_refused bs e.rule e.place)

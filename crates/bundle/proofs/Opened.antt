-- What holds of the pairs that an opening gives.
use Rattle.std.proofs.Common.{◌≡◌, ℕ, ◌+◌, ◌<◌, ◌≤◌, true, List, [], length, get_or, take, drop, Ok, Err, Result, sym, refl, ap, ◌∙◌, subst, ⊎_elim, zero-le, zero-add, arith}
use Rattle.std.proofs.lemmas.List.{drop-drop}
use Rattle.std.proofs.lemmas.Bool.{cases_lt, cases_Bool}
use Rattle.store.specs.Pairs.{Pair, nothing, Lawful, path_at, body_at}
use Rattle.bundle.specs.declared.rules.Refusal.{Refusal}
use Rattle.bundle.specs.Layout.{headed, count_of, reading, checked, told, opened, pairs_in, path_of, pair_of, place_of, from_record, path_place, path_length, body_place, body_length, first_pairs}
use Rattle.bundle.proofs.Parts.{body_lies}
use Rattle.bundle.proofs.Front.{headed_there, headed_long, checked_long, checked_head, checked_many, checked_records}
use Rattle.bundle.proofs.Steps.{length_first, first_at, fit_none}
use Rattle.bundle.proofs.Sound.{Sound, sound_none, reading_sound, Walked, reading_walked}

-- bytes that the check accepts: no rule of the head is broken, and the reading ends well
pub record Accepted (bs : List ℕ) (ps : List Pair) : Type 0 where
  pub short : length bs ≤ 16777216
  pub front : headed bs ≡ true
  pub few : count_of bs ≤ 1024
  pub read : reading (count_of bs) [] (drop 7 bs) 7 ≡ Ok ps

pub never : {A : Type 0} {x : Result (List Pair) Refusal} {e : Refusal} {ps : List Pair} → x ≡ Err e → x ≡ Ok ps → A
never p q = let z : ◌≡◌ {A = ℕ} 0 1 = cc in absurd (omega arith)

pub accepted : (bs : List ℕ) (ps : List Pair) → checked bs ≡ Ok ps → Accepted bs ps
accepted bs ps e =
    ⊎_elim (λ l. never (checked_long bs l) e)
    (λ s. ⊎_elim
    (λ f. ⊎_elim (λ m. never (checked_many bs s f m) e)
    (λ m. record { short = s; front = f; few = m; read = sym (checked_records bs s f m) ∙ e }) (cases_lt 1024 (count_of bs)))
    (λ f. never (checked_head bs s f) e) (cases_Bool (headed bs)))
    (cases_lt 16777216 (length bs))

-- the pairs in order, where their records lie, and that they are lawful
pub record Opens (bs : List ℕ) (ps : List Pair) : Type 0 where
  pub walked : Walked bs (length ps) ps
  pub sound : Sound ps
  pub few : length ps ≤ 1024
  pub short : 0 < length ps → length bs ≤ 16777216

pub accepted_walked : (bs : List ℕ) (ps : List Pair) → Accepted bs ps → Walked bs (count_of bs) ps
unfolding first_pairs
accepted_walked bs ps a =
    subst (λ (n : ℕ). Walked bs n ps) (zero-add (count_of bs))
    (reading_walked (count_of bs) bs 0 ps a.read (headed_long bs _ (headed_there bs a.front)) (fit_none bs))

pub accepted_count : (bs : List ℕ) (ps : List Pair) → Accepted bs ps → length ps ≡ count_of bs
accepted_count bs ps a = ap length (accepted_walked bs ps a).pairs ∙ length_first bs (count_of bs)

accepted_opens : (bs : List ℕ) (ps : List Pair) → Accepted bs ps → Opens bs ps
accepted_opens bs ps a =
    record {
      walked = subst (λ (n : ℕ). Walked bs n ps) (sym (accepted_count bs ps a)) (accepted_walked bs ps a);
      sound = reading_sound (count_of bs) [] (drop 7 bs) 7 ps a.read sound_none;
      few = omega (arith, accepted_count bs ps a, a.few);
      short = λ _. a.short;
    }

opens_by : (bs : List ℕ) (x : Result (List Pair) Refusal) → checked bs ≡ x → Opens bs (pairs_in x)
unfolding first_pairs
opens_by bs (Ok ps) e = accepted_opens bs ps (accepted bs ps e)
opens_by bs (Err e) _ = record { walked = record { pairs = refl; fits = fit_none bs }; sound = sound_none; few = zero-le; short = λ h. absurd (omega arith) }

pub opens : (bs : List ℕ) → Opens bs (opened bs)
unfolding opened
opens bs = opens_by bs (checked bs) refl

-- Of what a check tells.
told_ok : (x : Result (List Pair) Refusal) → told x ≡ Ok tt → (ps : List Pair) × (x ≡ Ok ps)
told_ok (Ok ps) e = (ps, refl)
told_ok (Err d) e = let z : ◌≡◌ {A = ℕ} 0 1 = cc in absurd (omega arith)

pub told_err : (x : Result (List Pair) Refusal) (d : Refusal) → told x ≡ Err d → x ≡ Err d
told_err (Ok ps) d e = let z : ◌≡◌ {A = ℕ} 0 1 = cc in absurd (omega arith)
told_err (Err d) f e = let same : d ≡ f = cc in ap Err same

-- a reading that ends well gives the pairs of its records
pub told_pairs : (bs : List ℕ) (count : ℕ) → 7 ≤ length bs → told (reading count [] (drop 7 bs) 7) ≡ Ok tt → reading count [] (drop 7 bs) 7 ≡ Ok (first_pairs bs count)
unfolding first_pairs
told_pairs bs count long e =
    let w = told_ok (reading count [] (drop 7 bs) 7) e in
    let p = (reading_walked count bs 0 w.0 w.1 long (fit_none bs)).pairs in
    w.1 ∙ ap Ok (p ∙ ap (first_pairs bs) (zero-add count))

-- The parts of a pair, by the place of its record.
pair_there : (bs : List ℕ) (n : ℕ) → n < length (opened bs) → get_or (opened bs) n nothing ≡ pair_of (from_record bs n)
pair_there bs n h = ap (λ (ps : List Pair). get_or ps n nothing) (opens bs).walked.pairs ∙ first_at bs (length (opened bs)) n h

pub path_part : (bs : List ℕ) (n : ℕ) → path_of (from_record bs n) ≡ take (path_length bs n) (drop (path_place bs n) bs)
unfolding path_of
path_part bs n = ap (take (path_length bs n)) (drop-drop 1 (place_of bs n) bs)

-- the path of a pair is a part of the bytes
pub path_placed : (bs : List ℕ) (n : ℕ) → n < length (opened bs) → path_at (opened bs) n ≡ take (path_length bs n) (drop (path_place bs n) bs)
path_placed bs n h = ap (λ (q : Pair). q.path) (pair_there bs n h) ∙ path_part bs n

-- and its body
pub body_placed : (bs : List ℕ) (n : ℕ) → n < length (opened bs) → body_at (opened bs) n ≡ take (body_length bs n) (drop (body_place bs n) bs)
body_placed bs n h =
    ap (λ (q : Pair). q.body) (pair_there bs n h)
    ∙ body_lies (from_record bs n)
    ∙ ap (take (body_length bs n)) (drop-drop (5 + path_length bs n) (place_of bs n) bs)

-- What the store keeps.
pub opens_lawful : (bs : List ℕ) → Lawful (opened bs)
opens_lawful bs =
    let o = opens bs in
    record { few = o.few; named = o.sound.named; small = o.sound.small; apart = o.sound.apart }

pub opened_ok : (bs : List ℕ) (ps : List Pair) → checked bs ≡ Ok ps → ps ≡ opened bs
unfolding opened
opened_ok bs ps e = sym (ap pairs_in e)

pub opened_err : (bs : List ℕ) (d : Refusal) → checked bs ≡ Err d → [] ≡ opened bs
unfolding opened
opened_err bs d e = sym (ap pairs_in e)

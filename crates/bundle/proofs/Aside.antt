-- The walk that leaves repeated paths aside, and the reading.
use Rattle.std.proofs.Common.{◌≡◌, ℕ, zero, suc, ◌+◌, ◌<◌, ◌≤◌, Bool, true, false, ◌⊎◌, List, length, Some, None, Err, Option, Result, sym, refl, ap, ◌∙◌, subst, inl, inr, ⊎_elim, arith, length-drop}
use Rattle.std.proofs.lemmas.Bool.{cases_lt, cases_eq, cond-true, cond-false, lt-ltb, le-ltb}
use Rattle.bundle.specs.declared.rules.Rule.{Rule}
use Rattle.bundle.specs.declared.rules.Rule.TheVariants.{RepeatedPath}
use Rattle.bundle.specs.declared.rules.Refusal.{Refusal}
use Rattle.bundle.specs.Layout.{path_of, path_fault, body_fault, met, fault, told, place_of, from_record, first_pairs}
use Rattle.bundle.specs.Rows.{seen, tells}
use Rattle.bundle.proofs.Parts.{body_none, fault_path, fault_met, fault_body}
use Rattle.bundle.proofs.Steps.{reading_at, reading_all, reading_left, reading_stops, reading_more, place_more}

abbrev pub at_place : Rule → ℕ → Result (Unit {0}) Refusal
at_place rule p = Err (record { rule = rule; place = p })

-- a fault, or none
pub cases_fault : (o : Option Rule) → (o ≡ None) ⊎ ((rule : Rule) × (o ≡ Some rule))
cases_fault None = inl refl
cases_fault (Some rule) = inr (rule, refl)

-- The walk, record by record.
module _ (m : ℕ) (bs : List ℕ) (n : ℕ) where
  pub path_stops : (rule : Rule) → path_fault (from_record bs n) ≡ Some rule → (seen (suc m) bs n ≡ n) × (tells (suc m) bs n ≡ at_place rule (place_of bs n))
  unfolding seen tells
  path_stops rule e = (rw e, rw e)

  pub body_stops : (rule : Rule) → path_fault (from_record bs n) ≡ None → body_fault (from_record bs n) ≡ Some rule
      → (seen (suc m) bs n ≡ n + 1) × (tells (suc m) bs n ≡ at_place rule (place_of bs n))
  unfolding seen tells
  body_stops rule e f = (rw (e, f), rw (e, f))

  pub walks_on : path_fault (from_record bs n) ≡ None → body_fault (from_record bs n) ≡ None
      → (seen (suc m) bs n ≡ seen m bs (n + 1)) × (tells (suc m) bs n ≡ tells m bs (n + 1))
  unfolding seen tells
  walks_on e f = (rw (e, f), rw (e, f))

pub seen_none : (bs : List ℕ) (n : ℕ) → seen 0 bs n ≡ n
unfolding seen
seen_none bs n = refl

pub seen_least : (m : ℕ) (bs : List ℕ) (n : ℕ) → n ≤ seen m bs n
seen_least zero bs n = omega (arith, seen_none bs n)
seen_least (suc m) bs n =
    ⊎_elim
    (λ p. ⊎_elim (λ b. omega (arith, (walks_on m bs n p b).0, seen_least m bs (n + 1))) (λ b. omega (arith, (body_stops m bs n b.0 p b.1).0)) (cases_fault (body_fault (from_record bs n))))
    (λ p. omega (arith, (path_stops m bs n p.0 p.1).0))
    (cases_fault (path_fault (from_record bs n)))

-- a record that is seen has a whole and lawful path
pub seen_fine : (m : ℕ) (bs : List ℕ) (n j : ℕ) → n ≤ j → j < seen m bs n → path_fault (from_record bs j) ≡ None
seen_fine zero bs n j h l = absurd (omega (arith, seen_none bs n))
seen_fine (suc m) bs n j h l =
    ⊎_elim
    (λ p.
    ⊎_elim (λ e. subst (λ (k : ℕ). path_fault (from_record bs k) ≡ None) e p)
    (λ ne.
    ⊎_elim
    (λ b. seen_fine m bs (n + 1) j (omega arith) (omega (arith, (walks_on m bs n p b).0)))
    (λ b. absurd (omega (arith, (body_stops m bs n b.0 p b.1).0)))
    (cases_fault (body_fault (from_record bs n))))
    (cases_eq n j))
    (λ p. absurd (omega (arith, (path_stops m bs n p.0 p.1).0)))
    (cases_fault (path_fault (from_record bs n)))

pub seen_most : (m : ℕ) (bs : List ℕ) (n : ℕ) → seen m bs n ≤ n + m
seen_most zero bs n = omega (arith, seen_none bs n)
seen_most (suc m) bs n =
    ⊎_elim
    (λ p. ⊎_elim (λ b. omega (arith, (walks_on m bs n p b).0, seen_most m bs (n + 1))) (λ b. omega (arith, (body_stops m bs n b.0 p b.1).0)) (cases_fault (body_fault (from_record bs n))))
    (λ p. omega (arith, (path_stops m bs n p.0 p.1).0))
    (cases_fault (path_fault (from_record bs n)))

-- an earlier record has the path of record number j, or none has
abbrev pub repeats_path : List ℕ → ℕ → Bool
repeats_path bs j = met (first_pairs bs j) (path_of (from_record bs j))

-- The reading of one record.
module _ (m : ℕ) (bs : List ℕ) (n : ℕ) where
  stop_at : (rule : Rule) → fault (first_pairs bs n) (from_record bs n) ≡ Some rule → told (reading_at (suc m) bs n) ≡ at_place rule (place_of bs n)
  stop_at rule e = ap told (reading_stops m (first_pairs bs n) (from_record bs n) (place_of bs n) rule e)

  read_on : path_fault (from_record bs n) ≡ None → repeats_path bs n ≡ false → body_fault (from_record bs n) ≡ None → told (reading_at (suc m) bs n) ≡ told (reading_at m bs (n + 1))
  read_on p q b = ap told (reading_more m bs n (fault_body (first_pairs bs n) (from_record bs n) p q ∙ b))

-- where no path is repeated, the reading tells what the walk tells
pub walk_new : (m : ℕ) (bs : List ℕ) (n : ℕ) → ((j : ℕ) → n ≤ j → j < seen m bs n → repeats_path bs j ≡ false) → told (reading_at m bs n) ≡ tells m bs n
unfolding tells
walk_new zero bs n new =
    ⊎_elim
    (λ l. ap told (reading_left (first_pairs bs n) (from_record bs n) (place_of bs n) (omega (arith, length-drop (place_of bs n) bs))) ∙ sym (cond-true _ _ _ (lt-ltb _ _ l)))
    (λ l. ap told (reading_all (first_pairs bs n) (from_record bs n) (place_of bs n) (omega (arith, length-drop (place_of bs n) bs))) ∙ sym (cond-false _ _ _ (le-ltb _ _ l)))
    (cases_lt (place_of bs n) (length bs))
walk_new (suc m) bs n new = ⊎_elim
    (λ p. ⊎_elim
    (λ b.
    let w = walks_on m bs n p b in
    let up : n < seen (suc m) bs n = omega (arith, w.0, seen_least m bs (n + 1)) in
    read_on m bs n p (new n (omega arith) up) b ∙ walk_new m bs (n + 1) (λ j h l. new j (omega arith) (omega (arith, w.0))) ∙ sym w.1)
    (λ b.
    let w = body_stops m bs n b.0 p b.1 in
    let mine = new n (omega arith) (omega (arith, w.0)) in
    stop_at m bs n b.0 (fault_body (first_pairs bs n) (from_record bs n) p mine ∙ b.1) ∙ sym w.1)
    (cases_fault (body_fault (from_record bs n))))
    (λ p. stop_at m bs n p.0 (fault_path (first_pairs bs n) (from_record bs n) p.0 p.1) ∙ sym (path_stops m bs n p.0 p.1).1)
    (cases_fault (path_fault (from_record bs n)))

-- the first repeated path is told before what the walk tells
pub walk_old : (m : ℕ) (bs : List ℕ) (n j : ℕ) → n ≤ j → j < seen m bs n → repeats_path bs j ≡ true → ((i : ℕ) → n ≤ i → i < j → repeats_path bs i ≡ false)
    → told (reading_at m bs n) ≡ at_place RepeatedPath (place_of bs j)
walk_old zero bs n j h l old new = absurd (omega (arith, seen_none bs n))
walk_old (suc m) bs n j h l old new = ⊎_elim
    (λ p. ⊎_elim
    (λ e. subst (λ (k : ℕ). told (reading_at (suc m) bs n) ≡ at_place RepeatedPath (place_of bs k)) e
    (stop_at m bs n RepeatedPath (fault_met (first_pairs bs n) (from_record bs n) p (subst (λ (k : ℕ). repeats_path bs k ≡ true) (sym e) old))))
    (λ ne. ⊎_elim
    (λ b.
    read_on m bs n p (new n (omega arith) (omega arith)) b
    ∙ walk_old m bs (n + 1) j (omega arith) (omega (arith, (walks_on m bs n p b).0)) old (λ i k. new i (omega arith)))
    (λ b. absurd (omega (arith, (body_stops m bs n b.0 p b.1).0)))
    (cases_fault (body_fault (from_record bs n))))
    (cases_eq n j))
    (λ p. absurd (omega (arith, (path_stops m bs n p.0 p.1).0)))
    (cases_fault (path_fault (from_record bs n)))

-- a record that is seen begins within the bytes
pub seen_near : (m : ℕ) (bs : List ℕ) (n j : ℕ) → place_of bs n ≤ length bs → n ≤ j → j < seen m bs n → place_of bs j ≤ length bs
seen_near zero bs n j at h l = absurd (omega (arith, seen_none bs n))
seen_near (suc m) bs n j at h l =
    ⊎_elim (λ e. subst (λ (k : ℕ). place_of bs k ≤ length bs) e at)
    (λ ne. ⊎_elim
    (λ p. ⊎_elim
    (λ b.
    let room = (body_none (from_record bs n) b).2 in
    seen_near m bs (n + 1) j (omega (arith, place_more bs n, length-drop (place_of bs n) bs)) (omega arith) (omega (arith, (walks_on m bs n p b).0)))
    (λ b. absurd (omega (arith, (body_stops m bs n b.0 p b.1).0)))
    (cases_fault (body_fault (from_record bs n))))
    (λ p. absurd (omega (arith, (path_stops m bs n p.0 p.1).0)))
    (cases_fault (path_fault (from_record bs n))))
    (cases_eq n j)

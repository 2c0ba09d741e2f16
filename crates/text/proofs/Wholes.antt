-- The outermost value.
use Rattle.std.proofs.Common.{◌≡◌, ℕ, ◌<◌, ◌≤◌, Bool, true, ltb, List, [], length, drop, Ok, Err, Result, sym, refl, ap, ◌∙◌, subst}
use Rattle.std.proofs.lemmas.Bool.{cond-true, cond-false, lt-ltb, le-ltb}
use Rattle.syntax.specs.declared.kinds.Fault.{Fault}
use Rattle.syntax.specs.Bytes.{gap}
use Rattle.syntax.specs.Value.{Value, to}
use Rattle.syntax.specs.Machine.{limits, live, value, start, run, whole, fault, malformed}
use Rattle.syntax.specs.Reading.{reading, alone, longest, too_long}
use Rattle.syntax.proofs.Runs.{run_over}
use Rattle.text.specs.declared.part.Part.{Part}
use Rattle.text.specs.Part.{part_of, part_read}
use Rattle.text.specs.Scans.{Reads}
use Rattle.text.proofs.Scans.{over_gap}

-- what reading from i on comes to
abbrev pub Comes : Bool → List ℕ → ℕ → Result Part Fault → Type 0
Comes b s i (Ok t) = (v : Value) × (part_of v ≡ t) × (run (limits b) (drop i s) i start ≡ whole v)
Comes b s i (Err f) = run (limits b) (drop i s) i start ≡ fault f

pub comes : (b : Bool) (s : List ℕ) (i j : ℕ) (x : Result Part Fault) → j ≡ gap s i → Reads (limits b) (live value) 16 s j x → Comes b s i x
comes b s i j (Ok t) e h = (h.2.0, h.2.1, over_gap (limits b) s i j start tt e ∙ h.2.2 [] refl ∙ run_over (limits b) (drop t.end s) t.end (whole h.2.0))
comes b s i j (Err f) e h = over_gap (limits b) s i j start tt e ∙ h [] refl

-- a text of no more bytes than there may be is read as the machine reads it, and what is behind the value has to be white space
module _ (s : List ℕ) (short : length s ≤ longest) where
  plainly : reading s ≡ alone s (run (limits true) s 0 start)
  unfolding reading
  plainly = cond-false _ _ _ (le-ltb longest (length s) short)

  pub out_early : (f : Fault) → Comes true s 0 (Err f) → Err f ≡ part_read (reading s)
  out_early f h = ap (λ o. part_read (alone s o)) (sym h) ∙ ap part_read (sym plainly)

  pub out_behind : (t : Part) (e : ℕ) → Comes true s 0 (Ok t) → e ≡ gap s t.end → e < length s → Err (malformed e) ≡ part_read (reading s)
  out_behind t e h g l =
      let end : e ≡ gap s (to h.0) = g ∙ ap (λ p. gap s p.end) (sym h.1) in
      ap (λ x. part_read (Err (malformed x))) end ∙ ap part_read (sym (cond-true (ltb (gap s (to h.0)) (length s)) _ _ (lt-ltb _ (length s) (subst (λ x. x < length s) end l))))
      ∙ ap (λ o. part_read (alone s o)) (sym h.2) ∙ ap part_read (sym plainly)

  pub read_whole : (t : Part) (e : ℕ) → Comes true s 0 (Ok t) → e ≡ gap s t.end → length s ≤ e → Ok t ≡ part_read (reading s)
  read_whole t e h g l =
      let end : e ≡ gap s (to h.0) = g ∙ ap (λ p. gap s p.end) (sym h.1) in
      ap Ok (sym h.1) ∙ ap part_read (sym (cond-false (ltb (gap s (to h.0)) (length s)) _ _ (le-ltb _ (length s) (subst (λ x. length s ≤ x) end l))))
      ∙ ap (λ o. part_read (alone s o)) (sym h.2) ∙ ap part_read (sym plainly)

pub out_long : (s : List ℕ) → longest < length s → Err too_long ≡ part_read (reading s)
unfolding reading
out_long s h = ap part_read (sym (cond-true (ltb longest (length s)) _ _ (lt-ltb longest (length s) h)))

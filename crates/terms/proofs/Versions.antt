-- The parts of a version are the pieces that splitting at dots gives.
use Rattle.std.proofs.Common.{◌≡◌, ℕ, suc, ◌<◌, Bool, true, false, cond, eqb, leb, List, [], ◌∷◌, ◌++◌, length, get_or, MatchOption, Some, None, Option, Bor, sym, refl, ap, ◌∙◌, subst, arith}
use Rattle.std.specs.Bool.{MatchBool}
use Rattle.std.specs.Fn.{CalledAt}
use Rattle.std.specs.List.{slice_split, onto_first, All, IsFirstMatchOrLen}
use Rattle.std.specs.Slice.Iter.{split_steps, split_rest, split_done, split_callee}
use Rattle.std.specs.declared.slice.Split.{Split}
use denote.Param.Members.{Mut}
use Rattle.std.proofs.lemmas.Bool.{cond-false, lt-leb}
use Rattle.std.proofs.lemmas.Fn.{always_returns_same}
use Rattle.std.proofs.lemmas.Grind.{common_steps}
use Rattle.std.proofs.lemmas.List.Splits.{slice_split_none, slice_split_at}
use Rattle.syntax.specs.Walking.{natural}
use Rattle.requirement.specs.Words.{◌of◌, bounded, in_front, part, parts}

abbrev is_dot : ℕ → Bool
is_dot b = eqb b 46

are_pieces : (bs : List ℕ) → parts bs ≡ slice_split is_dot bs
are_pieces [] = refl
are_pieces (b ∷ bs) = ap (in_front (is_dot b) b) (are_pieces bs) ∙ alike (is_dot b) (slice_split is_dot bs)
  where
    alike : (t : Bool) (ps : List (List ℕ)) → in_front t b ps ≡ cond t ([] ∷ ps) (onto_first b ps)
    alike true ps = refl
    alike false [] = refl
    alike false (p ∷ ps) = refl

-- the first piece, and the others
piece : (xs x rest : List ℕ) (done : Bool) → MatchBool done (xs ≡ x) ((y : ℕ) × (xs ≡ x ++ (y ∷ rest))) → IsFirstMatchOrLen is_dot xs (length x) → slice_split is_dot xs ≡ x ∷ cond done [] (slice_split is_dot rest)
piece xs x rest true e h = ap (slice_split is_dot) e ∙ slice_split_none is_dot x (λ k d l. subst (λ ys. is_dot (get_or ys k d) ≡ false) e (h.0 k d (omega arith) l))
piece xs x rest false e h =
    let front : All (λ z. is_dot z ≡ false) x = λ k d l. let a = h.0 k d (omega arith) l in let b = e.1 in grind (arith, common_steps) in
    let hit : is_dot e.0 ≡ true = let b = e.1 in let a = h.1 (grind (arith, common_steps)) e.0 in grind (arith, common_steps) in
    ap (slice_split is_dot) e.1 ∙ slice_split_at is_dot x e.0 rest front hit

module _ {F : Type 0} where
  -- the pieces that are still to come
  abbrev pub left : Split ℕ F → List (List ℕ)
  left s = cond (split_done s) [] (slice_split is_dot (split_rest s))

  pub all_left : (s : Split ℕ F) (bs : List ℕ) → split_rest s ≡ bs → split_done s ≡ false → parts bs ≡ left s
  all_left s bs e d = are_pieces bs ∙ ap (slice_split is_dot) (sym e) ∙ sym (ap (λ b. cond b [] (slice_split is_dot (split_rest s))) d)

  -- one call of `next`
  pub next_piece : (g : Mut F (Bor ℕ × Unit {0}) Bool) (s t : Split ℕ F) (r : Option (Bor (List ℕ))) → split_steps g s r t
      → ((x : ℕ) (b : Bool) (q : F) → CalledAt g (split_callee s) x b q → (q ≡ split_callee s) × (b ≡ is_dot x))
      → MatchOption r (left s ≡ []) (λ x. left s ≡ x.now ∷ left t)
  next_piece g s t None k tests = ap (λ b. cond b [] (slice_split is_dot (split_rest s))) k.0
  next_piece g s t (Some x) k tests =
      let same = always_returns_same g (λ a r. r ≡ is_dot a.0.now) (split_callee s) (λ a r q c. let m = tests a.0.now r q (record { shown = a.0; shows = refl; called = c }) in (m.1, m.0)) in
      ap (λ b. cond b [] (slice_split is_dot (split_rest s))) k.0 ∙ piece (split_rest s) x.now (split_rest t) (split_done t) k.1 (k.2 is_dot same).1

-- a part that is too long, or begins with a minus
pub too_long : (bs : List ℕ) → 5 < length bs → None ≡ part bs
too_long bs h = sym (cond-false (leb (length bs) 5) (bounded of natural bs) None (lt-leb (length bs) 5 h))

pub no_part : (bs : List ℕ) → get_or bs 0 0 ≡ 45 → None ≡ part bs
no_part [] e = absurd (omega arith)
no_part (b ∷ bs) e = let d : b ≡ 45 = e in sym (ap (λ x. part (x ∷ bs)) d ∙ no_digits (leb (suc (length bs)) 5))
  where
    no_digits : (t : Bool) → ◌≡◌ {A = Option ℕ} (cond t (bounded of natural (45 ∷ bs)) None) None
    no_digits true = refl
    no_digits false = refl

use Rattle.std.proofs.Common.{◌≡◌, ◌<◌, ◌⊎◌, get_or, codes, sym, refl, ap, ◌∙◌, inl, inr, arith}
use Rattle.syntax.specs.declared.kinds.Literal.TheVariants.{Null, False, True}
use Rattle.syntax.specs.declared.kinds.Digits.TheVariants.{Minus, Zero, Whole}
use Rattle.syntax.specs.Machine.{fault}
use Rattle.syntax.proofs.Runs.{fails}
use Rattle.text.proofs.Values.{numbers_read, words_read, whole_first, no_first}
use Rattle.text.proofs.scalars.scalar.Goals as goal
use Rattle.text.proofs.scalars.scalar.Goals.{in_default-via-then-this-lt48, in_default-via-else-this-lt48+else-this-lt58}

pub returns-in-45 : goal.returns-in-45
returns-in-45 c = λ r d. numbers_read r d c.args.s.now c.args.at 45 c.requires.within c.in-45.is Minus _ (λ k. refl) c.number.ensures

pub returns-in-48 : goal.returns-in-48
returns-in-48 c = λ r d. numbers_read r d c.args.s.now c.args.at 48 c.requires.within c.in-48.is Zero _ (λ k. refl) c.number-in-48.ensures

pub returns-in-49-to-57 : goal.returns-in-49-to-57
returns-in-49-to-57 c = λ r d. numbers_read r d c.args.s.now c.args.at _ c.requires.within refl Whole _ (λ k. whole_first r k _ _ (omega arith) (omega arith)) c.number-in-49-to-57.ensures

pub returns-in-110 : goal.returns-in-110
returns-in-110 c = λ r d. words_read r d c.args.s.now c.args.at 110 c.requires.within c.in-110.is Null (codes "ull") _ (λ k. refl) c.word.ensures

pub returns-in-116 : goal.returns-in-116
returns-in-116 c = λ r d. words_read r d c.args.s.now c.args.at 116 c.requires.within c.in-116.is True (codes "rue") _ (λ k. refl) c.word-in-116.ensures

pub returns-in-102 : goal.returns-in-102
returns-in-102 c = λ r d. words_read r d c.args.s.now c.args.at 102 c.requires.within c.in-102.is False (codes "alse") _ (λ k. refl) c.word-in-102.ensures

pub returns-in_default : goal.returns-in_default
returns-in_default c =
    let b = get_or c.args.s.now c.args.at 0 in
    let not34 : b ≡ 34 → ⊥ = λ e. omega arith in
    let not45 : b ≡ 45 → ⊥ = λ e. omega arith in
    let not110 : b ≡ 110 → ⊥ = λ e. omega arith in
    let not116 : b ≡ 116 → ⊥ = λ e. omega arith in
    let not102 : b ≡ 102 → ⊥ = λ e. omega arith in
    let out : (b < 48) ⊎ (57 < b) = elim c.in_default.branch [
      | in_default-via-then-this-lt48 w ↦ inl (omega (arith, w))
      | in_default-via-else-this-lt48+else-this-lt58 w ↦ inr (omega (arith, w))
    ] in
    λ r d k n. fails r c.args.s.now c.args.at _ _ c.requires.within (no_first r k b _ c.requires.solid not34 c.requires.bracket c.requires.brace not45 out not110 not116 not102) ∙ ap fault (sym c.fault.ensures)

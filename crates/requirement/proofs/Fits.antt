-- Gaps and clashes: what an object states, and what operators take.
use Rattle.std.proofs.Common.{◌≡◌, suc, Bool, true, false, not, ◌&&◌, ◌||◌, eqb, ◌⊎◌, ◌↔◌, List, [], ◌∷◌, length, is_some, Some, None, Decides, Option, refl, ap, subst, inl, inr, arith}
use Prim.Native.String.{String}
use Rattle.std.specs.Option.{option_map}
use Rattle.std.proofs.lemmas.Bool.{both_ways, and_parts, and_from, eqb-true}
use Rattle.std.proofs.lemmas.Bool.Decides.{Decides-and, Decides-or, Decides-like, Decides-eqb}
use Rattle.syntax.specs.Value.{Value}
use Rattle.syntax.specs.Walking.{Member}
use Rattle.requirement.specs.declared.words.Operator.{Operator}
use Rattle.requirement.specs.declared.words.Operator.TheVariants.{AnyOf, AllOf, Equal, NotEqual, GreaterThan, GreaterThanOrEqual, LessThan, LessThanOrEqual}
use Rattle.requirement.specs.declared.words.TestWord.{TestWord}
use Rattle.requirement.specs.declared.words.TestWord.TheVariants.{Present, Absent, By}
use Rattle.syntax.specs.Contents.{items, whole_number}
use Rattle.requirement.specs.Clause.{get, operator_of, test_word_of}
use Rattle.requirement.specs.Check.{one_number, takes, fits, comparison_fits, comparing, test_fits, states, alike, condition_fits, presence}
use Rattle.requirement.specs.Law.{States, OneNumber, Takes, Taken, Compares, Tests, Skipping}
use Rattle.requirement.proofs.Numbers.{some_decides, number_decides}

stated : (k : String) (ms : List Member) → Decides (states k ms) (States k ms)
stated k ms = some_decides (get k ms)

-- what an operator takes
one_number_decides : (vs : List Value) → Decides (one_number vs) (OneNumber vs)
one_number_decides vs = (go vs, λ q. rw q.1 (and_from (is_some (whole_number q.0)) true ((number_decides q.0).1 q.2) refl))
  where
    go : (ws : List Value) → one_number ws ≡ true → OneNumber ws
    go [] e = absurd (both_ways false refl e)
    go (v ∷ []) e = (v, refl, (number_decides v).0 (and_parts (is_some (whole_number v)) true e).0)
    go (v ∷ (w ∷ r)) e = absurd (let h = eqb-true (suc (length r)) 0 (and_parts (is_some (whole_number v)) (eqb (suc (length r)) 0) e).1 in omega arith)

takes_decides : (o : Operator) (vs : List Value) → Decides (takes o vs) (Takes o vs)
takes_decides AnyOf vs = (λ _. tt, λ _. refl)
takes_decides AllOf vs = (λ _. tt, λ _. refl)
takes_decides Equal vs = Decides-eqb (length vs) 1
takes_decides NotEqual vs = Decides-eqb (length vs) 1
takes_decides GreaterThan vs = one_number_decides vs
takes_decides GreaterThanOrEqual vs = one_number_decides vs
takes_decides LessThan vs = one_number_decides vs
takes_decides LessThanOrEqual vs = one_number_decides vs

-- an operator, if there is one, with its values, if there are any
fits_decides : (w : Option Operator) (vs : Option Value) → Decides (fits w (option_map items vs)) ((o : Operator) → w ≡ Some o → (v : Value) × (vs ≡ Some v) × Takes o (items v))
fits_decides None vs = (λ _ o e. absurd (both_ways false refl (ap is_some e)), λ _. refl)
fits_decides (Some o) None = (λ e. absurd (both_ways false refl e), λ f. ap is_some (f o refl).1)
fits_decides (Some o) (Some v) = (
  λ e p f. let g : o ≡ p = cc in (v, refl, subst (λ x. Takes x (items v)) g ((takes_decides o (items v)).0 e)),
  λ f. let q = f o refl in let e = q.1 in let g : q.0 ≡ v = cc in (takes_decides o (items v)).1 (subst (λ x. Takes o (items x)) g q.2),
)

pub compares_decides : (ms : List Member) → Decides (comparison_fits ms) (Compares ms)
compares_decides ms = fits_decides (operator_of ms) (get "Values" ms)

comparing_is : (w : Option TestWord) (o : Operator) → (comparing w ≡ Some o) ↔ (w ≡ Some (By o))
comparing_is None o = (λ e. absurd (both_ways false refl (ap is_some e)), λ e. absurd (both_ways false refl (ap is_some e)))
comparing_is (Some Present) o = (λ e. absurd (both_ways false refl (ap is_some e)), λ e. ap comparing e)
comparing_is (Some Absent) o = (λ e. absurd (both_ways false refl (ap is_some e)), λ e. ap comparing e)
comparing_is (Some (By p)) o = (λ e. let g : p ≡ o = cc in ap (λ x. Some (By x)) g, λ e. ap comparing e)

tested_decides : (ms : List Member) → Decides (test_fits ms) ((o : Operator) → test_word_of ms ≡ Some (By o) → Taken "CompareValues" o ms)
tested_decides ms =
    let w = test_word_of ms in
    Decides-like (test_fits ms) (λ f o e. f o ((comparing_is w o).1 e)) (λ f o e. f o ((comparing_is w o).0 e)) (fits_decides (comparing w) (get "CompareValues" ms))

-- two facts that hold together; one that asks for another
alike_decides : {P Q : Type 0} (x y : Bool) → Decides x P → Decides y Q → Decides (alike x y) (P ↔ Q)
alike_decides true y a b = (λ e. (λ _. b.0 e, λ _. a.0 refl), λ f. b.1 (f.0 (a.0 refl)))
alike_decides false true a b = (λ e. absurd (both_ways false refl e), λ f. a.1 (f.1 (b.0 refl)))
alike_decides false false a b = (λ _. (λ p. absurd (both_ways false refl (a.1 p)), λ q. absurd (both_ways false refl (b.1 q))), λ _. refl)

implied_decides : {P Q : Type 0} (x y : Bool) → Decides x P → Decides y Q → Decides (not x || y) (P → Q)
implied_decides true y a b = (λ e p. b.0 e, λ f. b.1 (f (a.0 refl)))
implied_decides false y a b = (λ _ p. absurd (both_ways false refl (a.1 p)), λ _. refl)

pub tests_decides : (ms : List Member) → Decides (condition_fits ms) (Tests ms)
tests_decides ms =
    let under = states "SubordinateToResource" ms in
    let property = states "CompareProperty" ms in
    let type = states "CompareType" ms in
    let against = states "CompareValues" ms in
    let some = under || property in
    let both = alike property type in
    let typed = not against || type in
    Decides-like (condition_fits ms)
    (λ q. record { some = q.0.0.0.0; both = q.0.0.0.1; typed = q.0.0.1; tested = q.0.1; compared = q.1 })
    (λ t. ((((t.some, t.both), t.typed), t.tested), t.compared))
    (Decides-and (some && both && typed && test_fits ms) (comparison_fits ms)
    (Decides-and (some && both && typed) (test_fits ms)
    (Decides-and (some && both) typed
    (Decides-and some both
    (Decides-or under property (stated "SubordinateToResource" ms) (stated "CompareProperty" ms))
    (alike_decides property type (stated "CompareProperty" ms) (stated "CompareType" ms)))
    (implied_decides against type (stated "CompareValues" ms) (stated "CompareType" ms)))
    (tested_decides ms))
    (compares_decides ms))

-- where `CompareValues` is skipped
presence_decides : (w : Option TestWord) → Decides (presence w) ((w ≡ Some Present) ⊎ (w ≡ Some Absent))
presence_decides None = (λ e. absurd (both_ways false refl e), elim [ inl e ↦ ap presence e | inr e ↦ ap presence e ])
presence_decides (Some Present) = (λ _. inl refl, λ _. refl)
presence_decides (Some Absent) = (λ _. inr refl, λ _. refl)
presence_decides (Some (By o)) = (λ e. absurd (both_ways false refl e), elim [ inl e ↦ ap presence e | inr e ↦ ap presence e ])

pub skipping_decides : (ms : List Member) → Decides (presence (test_word_of ms)) (Skipping ms)
skipping_decides ms = presence_decides (test_word_of ms)

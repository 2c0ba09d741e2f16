-- What reading a profile answers is what the rules say.
use Rattle.std.proofs.Common.{◌≡◌, ℕ, ◌≤◌, false, leb, ◌⊎◌, ◌↔◌, List, length, is_ok, Ok, Err, Result, sym, refl, ap, ◌∙◌, subst, inl, inr, arith}
use Rattle.std.proofs.lemmas.Bool.{both_ways, le-leb, leb-true}
use Rattle.syntax.specs.declared.kinds.Fault.{Fault}
use Rattle.syntax.specs.Value.{Value}
use Rattle.syntax.specs.Reading.{reading}
use Rattle.syntax.specs.Laws as texts
use Rattle.syntax.proofs.Stands as text_laws
use Rattle.requirement.specs.declared.fault.ProfileFault.{ProfileFault}
use Rattle.requirement.specs.declared.fault.ProfileFault.TheVariants.{Text, TooMany}
use Rattle.requirement.specs.Clause.{Clause, clauses}
use Rattle.requirement.specs.Check as check
use Rattle.requirement.specs.Check.{Check, ◌then◌}
use Rattle.requirement.specs.Reading.{reading_profile, profile_in, answered, few, most}
use Rattle.requirement.specs.Law.{profile, Accepted, Accepts, Refused, no_text, no_profile, too_many, Tells}
use Rattle.requirement.proofs.Verdicts.{Verdict, kept, told, sured, thened}
use Rattle.requirement.proofs.Follows.{profile_follows}

never : {A T E : Type 0} {x : T} {e : E} → ◌≡◌ {A = Result T E} (Ok x) (Err e) → A
never e = absurd (both_ways false refl (sym (ap is_ok e)))

-- what a check with a verdict answers
answers_ok : {A L : Type 0} {B : ProfileFault → Type 0} {c : Check} (a x : A) → Verdict L B c → (answered c a ≡ Ok x) ↔ (L × (x ≡ a))
answers_ok a x (kept l none) = (λ e. (l, cc), λ q. ap Ok (sym q.1))
answers_ok a x (told no' b only) = (λ e. never (sym e), λ q. absurd (no' q.0))

answers_err : {A L : Type 0} {B : ProfileFault → Type 0} {c : Check} (a : A) (f : ProfileFault) → Verdict L B c → (answered c a ≡ Err f) ↔ B f
answers_err a f (kept l none) = (λ e. never e, λ b. absurd (none f b))
answers_err {B = B} a f (told {g = g} no' b only) = (λ e. let h : g ≡ f = cc in subst B h b, λ x. ap Err (sym (only f x)))

-- the whole check of a value
abbrev Few : Value → Type 0
Few v = length (clauses v) ≤ most

verdict : (v : Value) → Verdict (profile.lawful v × Few v) (λ f. profile.broken v f ⊎ (profile.lawful v × ((Few v → ⊥) × (f ≡ TooMany)))) (check.profile v then few (clauses v))
verdict v = let n = length (clauses v) in thened (profile_follows v) (λ _. sured (leb n most) TooMany (leb-true n most, le-leb n most))

-- acceptance
reads : (s : List ℕ) (cs : List Clause) (r : Result Value Fault) → reading s ≡ r → profile_in r ≡ Ok cs → Accepted s cs
reads s cs (Ok v) e f =
    let q = (answers_ok (clauses v) cs (verdict v)).0 f in
    record { value = v; text = (text_laws.accepts s v).1 e; lawful = q.0.0; few = q.0.1; are = q.1 }
reads s cs (Err g) e f = never (sym f)

pub accepts : Accepts
accepts s cs = (
  reads s cs (reading s) refl,
  λ a. ap profile_in ((text_laws.accepts s a.value).0 a.text) ∙ (answers_ok (clauses a.value) cs (verdict a.value)).1 ((a.lawful, a.few), a.are),
)

-- refusal
refused : (s : List ℕ) (f : ProfileFault) (r : Result Value Fault) → reading s ≡ r → profile_in r ≡ Err f → Refused s f
refused s f (Ok v) e x = go ((answers_err (clauses v) f (verdict v)).0 x)
  where
    text : texts.Lawful s v
    text = (text_laws.accepts s v).1 e

    go : profile.broken v f ⊎ (profile.lawful v × ((Few v → ⊥) × (f ≡ TooMany))) → Refused s f
    go (inl b) = no_profile text b
    go (inr q) = subst (Refused s) (sym q.1.1) (too_many text q.0 (let no' = q.1.0 in omega arith))
refused s f (Err g) e x = let h : Text g ≡ f = cc in subst (Refused s) h (no_text ((text_laws.told s g.cause g.place).0 e))

refuses : (s : List ℕ) (f : ProfileFault) → Refused s f → reading_profile s ≡ Err f
refuses s f (no_text {f = g} h) = ap profile_in ((text_laws.told s g.cause g.place).1 h)
refuses s f (no_profile {v = v} t b) = ap profile_in ((text_laws.accepts s v).0 t) ∙ (answers_err (clauses v) f (verdict v)).1 (inl b)
refuses s f (too_many {v = v} t l h) =
    ap profile_in ((text_laws.accepts s v).0 t) ∙ (answers_err (clauses v) TooMany (verdict v)).1 (inr (l, ((λ k. omega (arith, h, k)), refl)))

pub tells : Tells
tells s f = (refused s f (reading s) refl, refuses s f)

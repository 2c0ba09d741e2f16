-- Of the descriptions of faults at most one fits the same bytes, and none fits a lawful text.
use Rattle.std.proofs.Common.{◌≡◌, ℕ, ◌+◌, ◌<◌, ◌≤◌, List, [], ◌∷◌, ◌++◌, length, take, drop, sym, ap, ◌∙◌, subst, ⊎_elim, arith}
use Rattle.std.proofs.lemmas.List.{append_assoc, take-append-drop, take-take}
use Rattle.std.proofs.lemmas.Bool.{cases_order, cases_lt}
use Rattle.syntax.specs.declared.kinds.Cause.{Cause}
use Rattle.syntax.specs.declared.kinds.Cause.TheVariants.{TooLong, Malformed, TooDeep, RepeatedName}
use Rattle.syntax.specs.declared.kinds.Fault.{Fault}
use Rattle.syntax.specs.Value.{Value}
use Rattle.syntax.specs.Grammar.{Text, Begins}
use Rattle.syntax.specs.Limits.{breaks}
use Rattle.syntax.specs.Laws.{Lawful, BreaksOff, NoneBefore, FirstBreak, Late, Says}
use Rattle.syntax.specs.Reading.{longest}

-- the first n bytes, from the first m of them on
front_of : (m n : ℕ) (s q : List ℕ) → m ≤ n → take n s ++ q ≡ take m s ++ (drop m (take n s) ++ q)
front_of m n s q h =
    ap (λ x. x ++ q) (sym (take-append-drop m (take n s)) ∙ ap (λ x. x ++ drop m (take n s)) (take-take m n s h))
    ∙ append_assoc (take m s) (drop m (take n s)) q

begins_front : (m n : ℕ) (s : List ℕ) → m ≤ n → Begins (take n s) → Begins (take m s)
begins_front m n s h b = (drop m (take n s) ++ b.0, (b.1.0, subst (λ x. Text x b.1.0) (front_of m n s b.0 h) b.1.1))

begins_of : (m : ℕ) (s : List ℕ) (v : Value) → Text s v → Begins (take m s)
begins_of m s v t = (drop m s, (v, subst (λ x. Text x v) (sym (take-append-drop m s)) t))

within : (s : List ℕ) (p : ℕ) → BreaksOff s p → p ≤ length s
within s p b = ⊎_elim (λ x. let e = x.0 in omega arith) (λ x. let e = x.0 in omega arith) b.stops

-- no beginning goes past the place where the bytes break off
stops_there : (s : List ℕ) (p n : ℕ) → BreaksOff s p → p < n → n ≤ length s → Begins (take n s) → ⊥
stops_there s p n b h l t = ⊎_elim (λ x. let e = x.0 in omega arith) (λ x. let g : p + 1 ≤ n = omega arith in x.1 (begins_front (p + 1) n s g t)) b.stops

same_place : (s : List ℕ) (p q : ℕ) → BreaksOff s p → BreaksOff s q → p ≡ q
same_place s p q a b =
    ⊎_elim (λ e. e)
    (λ x. absurd (⊎_elim (λ h. stops_there s p q a h (within s q b) b.begins) (λ h. stops_there s q p b h (within s p a) a.begins) x))
    (cases_order p q)

-- a limit is not first broken where the bytes break off before it, or where none is broken before they do
form_or_limit : (s : List ℕ) (p : ℕ) (f : Fault) → BreaksOff s p → NoneBefore s p → FirstBreak s f → ⊥
form_or_limit s p f a l b =
    ⊎_elim (λ h. let t = a.begins in
    let x = b.first (drop (f.place + 1) (take p s) ++ t.0) t.1.0 (subst (λ x. Text x t.1.0) (front_of (f.place + 1) p s t.0 (omega arith)) t.1.1) in
    let late : p ≤ f.place = subst (Late p) x.1 (l t.0 t.1.0 t.1.1) in
    omega arith)
    (λ h. let i = b.inside in stops_there s p (f.place + 1) a (omega arith) (omega arith) b.begins)
    (cases_lt f.place p)

heads : (f g : Fault) (fs gs : List Fault) → f ∷ fs ≡ g ∷ gs → f ≡ g
heads f g fs gs e = cc

same_limit_of : (s : List ℕ) (f g : Fault) → f.place ≤ g.place → FirstBreak s f → FirstBreak s g → f ≡ g
same_limit_of s f g h a b =
    let t = b.begins in
    let x = a.first (drop (f.place + 1) (take (g.place + 1) s) ++ t.0) t.1.0 (subst (λ x. Text x t.1.0) (front_of (f.place + 1) (g.place + 1) s t.0 (omega arith)) t.1.1) in
    let y = b.first t.0 t.1.0 t.1.1 in
    heads f g x.0 y.0 (sym x.1 ∙ y.1)

same_limit : (s : List ℕ) (f g : Fault) → FirstBreak s f → FirstBreak s g → f ≡ g
same_limit s f g a b = ⊎_elim (λ h. same_limit_of s f g (omega arith) a b) (λ h. sym (same_limit_of s g f h b a)) (cases_lt f.place g.place)

-- a fault as its parts
abbrev pub told_as : Cause → ℕ → Fault
told_as c p = record { cause = c; place = p }

long_or_short : {A : Type 0} (n : ℕ) → longest < n → n ≤ longest → A
long_or_short n h l = let z : ⊥ = omega arith in absurd z

pub only : (s : List ℕ) (c d : Cause) (p q : ℕ) → Says c s p → Says d s q → told_as c p ≡ told_as d q
only s TooLong TooLong p q a b = ap (told_as TooLong) (a.1 ∙ sym b.1)
only s TooLong Malformed p q a b = long_or_short (length s) a.0 b.0
only s TooLong TooDeep p q a b = long_or_short (length s) a.0 b.0
only s TooLong RepeatedName p q a b = long_or_short (length s) a.0 b.0
only s Malformed TooLong p q a b = long_or_short (length s) b.0 a.0
only s Malformed Malformed p q a b = ap (told_as Malformed) (same_place s p q a.1 b.1)
only s Malformed TooDeep p q a b = absurd (form_or_limit s p (told_as TooDeep q) a.1 a.2 b.1)
only s Malformed RepeatedName p q a b = absurd (form_or_limit s p (told_as RepeatedName q) a.1 a.2 b.1)
only s TooDeep TooLong p q a b = long_or_short (length s) b.0 a.0
only s TooDeep Malformed p q a b = absurd (form_or_limit s q (told_as TooDeep p) b.1 b.2 a.1)
only s TooDeep TooDeep p q a b = same_limit s (told_as TooDeep p) (told_as TooDeep q) a.1 b.1
only s TooDeep RepeatedName p q a b = same_limit s (told_as TooDeep p) (told_as RepeatedName q) a.1 b.1
only s RepeatedName TooLong p q a b = long_or_short (length s) b.0 a.0
only s RepeatedName Malformed p q a b = absurd (form_or_limit s q (told_as RepeatedName p) b.1 b.2 a.1)
only s RepeatedName TooDeep p q a b = same_limit s (told_as RepeatedName p) (told_as TooDeep q) a.1 b.1
only s RepeatedName RepeatedName p q a b = same_limit s (told_as RepeatedName p) (told_as RepeatedName q) a.1 b.1

no_limit : (s : List ℕ) (v : Value) (f : Fault) → Text s v → breaks 0 v ≡ [] → FirstBreak s f → ⊥
no_limit s v f t e b =
    let x = b.first (drop (f.place + 1) s) v (subst (λ x. Text x v) (sym (take-append-drop (f.place + 1) s)) t) in
    filled x.0 (sym x.1 ∙ e)
  where
    filled : (fs : List Fault) → f ∷ fs ≡ [] → ⊥
    filled fs z = let y : ◌≡◌ {A = ℕ} 0 1 = cc in omega arith

pub lawful_or_told : (s : List ℕ) (v : Value) (c : Cause) (p : ℕ) → Lawful s v → Says c s p → ⊥
lawful_or_told s v TooLong p l a = long_or_short (length s) a.0 l.short
lawful_or_told s v Malformed p l a = ⊎_elim (λ x. x.1 v l.text) (λ x. x.1 (begins_of (p + 1) s v l.text)) a.1.stops
lawful_or_told s v TooDeep p l a = no_limit s v (told_as TooDeep p) l.text l.kept a.1
lawful_or_told s v RepeatedName p l a = no_limit s v (told_as RepeatedName p) l.text l.kept a.1

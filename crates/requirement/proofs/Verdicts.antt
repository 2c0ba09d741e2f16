-- Checks that follow rules: a lemma for each way in which a check is put together.
use Rattle.std.proofs.Common.{◌≡◌, ℕ, Bool, true, false, cond, ◌&&◌, leb, ◌⊎◌, List, [], ◌∷◌, length, is_some, Some, None, Err, Decides, MatchBool, Option, sym, refl, ap, ◌∙◌, subst, inl, inr}
use Rattle.std.specs.Option.{option_map, option_or}
use Rattle.std.specs.List.{AllByRecursion}
use Rattle.std.proofs.lemmas.Bool.{both_ways, le-leb, leb-true}
use Rattle.std.proofs.lemmas.Bool.Decides.{Decides-and}
use Rattle.syntax.specs.Bytes.{same}
use Rattle.syntax.specs.Value.{Value, from}
use Rattle.syntax.specs.Value as v
use Rattle.syntax.specs.Walking.{Member, listed, listed_items}
use Rattle.requirement.specs.declared.fault.ProfileFault.{ProfileFault}
use Rattle.requirement.specs.declared.fault.ProfileFault.TheVariants.{Unlawful, Unnamed}
use Rattle.requirement.specs.Words.{Table, nothing, row, lookup}
use Rattle.requirement.specs.Check as check
use Rattle.requirement.specs.Check.{Check, fine, ◌then◌, each, sure, string, array, object, by, named, want}
use Rattle.requirement.specs.Rules.{Rule, First, here, later, anything, being, StringWith, AString, is_string, WrongString, no_string, other_string, saying, Between, ArrayOf, is_array, AnArray, is_an_array, WrongArray, no_array, other_number, in_item, array_of, ObjectWith, is_object, AnObject, is_an_object, WrongObject, no_object, in_member, gap_or_clash, object_with, object_of, Named, Misnamed, named_in, unless}

-- a check is fine exactly where L holds, and tells a fault exactly where B holds of it
pub data Verdict (L : Type 0) (B : ProfileFault → Type 0) : Check → Type 0 where
  kept : L → ((f : ProfileFault) → B f → ⊥) → Verdict L B fine
  told : {g : ProfileFault} → (L → ⊥) → B g → ((f : ProfileFault) → B f → f ≡ g) → Verdict L B (Err g)

abbrev pub Follows : {A : Type 0} → (A → Check) → Rule A → Type 0
Follows {A} h r = (x : A) → Verdict (r.lawful x) (r.broken x) (h x)

pub like : {L M : Type 0} {B C : ProfileFault → Type 0} {c : Check} → (L → M) → (M → L) → ((f : ProfileFault) → B f → C f) → ((f : ProfileFault) → C f → B f) → Verdict L B c → Verdict M C c
like to back tells untells (kept l none) = kept (to l) (λ f x. none f (untells f x))
like to back tells untells (told no' b only) = told (λ m. no' (back m)) (tells _ b) (λ f x. only f (untells f x))

-- a test
pub sured : {P : Type 0} (b : Bool) (g : ProfileFault) → Decides b P → Verdict P (λ f. (P → ⊥) × (f ≡ g)) (sure b g)
sured true g d = kept (d.0 refl) (λ f q. q.0 (d.0 refl))
sured {P} false g d = let none : P → ⊥ = λ p. both_ways false refl (d.1 p) in told none (none, refl) (λ f q. q.1)

-- one check and then another
pub thened : {P Q : Type 0} {F G : ProfileFault → Type 0} {c d : Check} → Verdict P F c → (P → Verdict Q G d) → Verdict (P × Q) (λ f. F f ⊎ (P × G f)) (c then d)
thened (kept p none) b = like (λ q. (p, q)) (λ q. q.1) (λ f g. inr (p, g)) (λ f. elim [ inl x ↦ absurd (none f x) | inr y ↦ y.1 ]) (b p)
thened (told no' g only) b = told (λ q. no' q.0) (inl g) (λ f. elim [ inl x ↦ only f x | inr y ↦ absurd (no' y.0) ])

-- each of a list
first_or_later : {A : Type 0} {r : Rule A} {x : A} {xs : List A} {f : ProfileFault} → First r (x ∷ xs) f → r.broken x f ⊎ (r.lawful x × First r xs f)
first_or_later (here b) = inl b
first_or_later (later l b) = inr (l, b)

none_first : {A : Type 0} {r : Rule A} {f : ProfileFault} → First r [] f → ⊥
none_first = elim [ ]

pub eached : {A : Type 0} (h : A → Check) (r : Rule A) → Follows h r → (xs : List A) → Verdict (AllByRecursion r.lawful xs) (First r xs) (each h xs)
eached h r a [] = kept tt (λ f. none_first)
eached h r a (x ∷ xs) = like (λ q. q) (λ q. q) (λ f. elim [ inl b ↦ here b | inr q ↦ later q.0 q.1 ]) (λ f. first_or_later) (thened (a x) (λ _. eached h r a xs))

-- any value; a value of a kind
pub anythinged : Follows check.skipped anything
anythinged v = kept tt (λ f x. x)

pub wanted : {A : Type 0} (f : Value → Option A) (P : Value → Type 0) → ((v : Value) → Decides (is_some (f v)) (P v)) → Follows (want f) (being P)
wanted f P d v = sured (is_some (f v)) (Unlawful (from v)) (d v)

-- strings
some_string : {P : List ℕ → Type 0} {v : Value} → StringWith P v → AString v
some_string (is_string h) = is_string tt

string_told : {P : List ℕ → Type 0} {i j : ℕ} {s : List ℕ} {g : ProfileFault} → WrongString P (v.string i j s) g → (P s → ⊥) × (g ≡ Unnamed i)
string_told (no_string h) = absurd (h (is_string tt))
string_told (other_string h) = (h, refl)

no_string_told : {P : List ℕ → Type 0} {v : Value} {g : ProfileFault} → (AString v → ⊥) → WrongString P v g → g ≡ Unlawful (from v)
no_string_told no' (no_string h) = refl
no_string_told no' (other_string h) = absurd (no' (is_string tt))

no_stringed : (P : List ℕ → Type 0) (v : Value) → (AString v → ⊥) → Verdict (StringWith P v) (WrongString P v) (Err (Unlawful (from v)))
no_stringed P v no' = told (λ l. no' (some_string l)) (no_string no') (λ g. no_string_told no')

pub stringed : (f : List ℕ → Bool) (P : List ℕ → Type 0) → ((s : List ℕ) → Decides (f s) (P s)) → Follows (string f) (saying P)
stringed f P d (v.literal i j w) = no_stringed P (v.literal i j w) (elim [ ])
stringed f P d (v.number i j n) = no_stringed P (v.number i j n) (elim [ ])
stringed f P d (v.string i j s) =
    like is_string (elim [ is_string h ↦ h ]) (λ g q. subst (WrongString P (v.string i j s)) (sym q.1) (other_string q.0)) (λ g. string_told) (sured (f s) (Unnamed i) (d s))
stringed f P d (v.array i j vs) = no_stringed P (v.array i j vs) (elim [ ])
stringed f P d (v.object i j ms) = no_stringed P (v.object i j ms) (elim [ ])

-- arrays
some_array : {least most : ℕ} {r : Rule Value} {v : Value} → ArrayOf least most r v → AnArray v
some_array (is_array b all) = is_an_array

array_told : {least most : ℕ} {r : Rule Value} {i j : ℕ} {vs : v.Items} {g : ProfileFault} → WrongArray least most r (v.array i j vs) g →
    ((Between least most (listed_items vs) → ⊥) × (g ≡ Unlawful i)) ⊎ (Between least most (listed_items vs) × First r (listed_items vs) g)
array_told (no_array h) = absurd (h is_an_array)
array_told (other_number h) = inl (h, refl)
array_told (in_item b q) = inr (b, q)

no_array_told : {least most : ℕ} {r : Rule Value} {v : Value} {g : ProfileFault} → (AnArray v → ⊥) → WrongArray least most r v g → g ≡ Unlawful (from v)
no_array_told no' (no_array h) = refl
no_array_told no' (other_number h) = absurd (no' is_an_array)
no_array_told no' (in_item b q) = absurd (no' is_an_array)

no_arrayed : (least most : ℕ) (r : Rule Value) (v : Value) → (AnArray v → ⊥) → Verdict (ArrayOf least most r v) (WrongArray least most r v) (Err (Unlawful (from v)))
no_arrayed least most r v no' = told (λ l. no' (some_array l)) (no_array no') (λ g. no_array_told no')

pub arrayed : (least most : ℕ) (h : Value → Check) (r : Rule Value) → Follows h r → Follows (array least most h) (array_of least most r)
arrayed least most h r a (v.literal i j w) = no_arrayed least most r (v.literal i j w) (elim [ ])
arrayed least most h r a (v.number i j n) = no_arrayed least most r (v.number i j n) (elim [ ])
arrayed least most h r a (v.string i j s) = no_arrayed least most r (v.string i j s) (elim [ ])
arrayed least most h r a (v.array i j vs) =
    let n = length (listed_items vs) in
    like (λ q. is_array q.0 q.1) (elim [ is_array b q ↦ (b, q) ])
    (λ g. elim [ inl q ↦ subst (WrongArray least most r (v.array i j vs)) (sym q.1) (other_number q.0) | inr q ↦ in_item q.0 q.1 ])
    (λ g. array_told)
    (thened (sured (leb least n && leb n most) (Unlawful i) (Decides-and (leb least n) (leb n most) (leb-true least n, le-leb least n) (leb-true n most, le-leb n most)))
    (λ _. eached h r a (listed_items vs)))
arrayed least most h r a (v.object i j ms) = no_arrayed least most r (v.object i j ms) (elim [ ])

-- objects
some_object : {r : List Member → Rule Member} {Whole : List Member → Type 0} {v : Value} → ObjectWith r Whole v → AnObject v
some_object (is_object all w) = is_an_object

object_told : {r : List Member → Rule Member} {Whole : List Member → Type 0} {i j : ℕ} {ms : v.Members} {g : ProfileFault} → WrongObject r Whole (v.object i j ms) g →
    First (r (listed ms)) (listed ms) g ⊎ (AllByRecursion (r (listed ms)).lawful (listed ms) × ((Whole (listed ms) → ⊥) × (g ≡ Unlawful i)))
object_told (no_object h) = absurd (h is_an_object)
object_told (in_member b) = inl b
object_told (gap_or_clash all h) = inr (all, (h, refl))

no_object_told : {r : List Member → Rule Member} {Whole : List Member → Type 0} {v : Value} {g : ProfileFault} → (AnObject v → ⊥) → WrongObject r Whole v g → g ≡ Unlawful (from v)
no_object_told no' (no_object h) = refl
no_object_told no' (in_member b) = absurd (no' is_an_object)
no_object_told no' (gap_or_clash all h) = absurd (no' is_an_object)

no_objected : (r : List Member → Rule Member) (Whole : List Member → Type 0) (v : Value) → (AnObject v → ⊥) → Verdict (ObjectWith r Whole v) (WrongObject r Whole v) (Err (Unlawful (from v)))
no_objected r Whole v no' = told (λ l. no' (some_object l)) (no_object no') (λ g. no_object_told no')

pub objected : (h : List Member → Member → Check) (ok : List Member → Bool) (r : List Member → Rule Member) (Whole : List Member → Type 0) →
    ((ms : List Member) → Follows (h ms) (r ms)) → ((ms : List Member) → Decides (ok ms) (Whole ms)) → Follows (object (λ ms. each (h ms) ms) ok) (object_with r Whole)
objected h ok r Whole a d (v.literal i j w) = no_objected r Whole (v.literal i j w) (elim [ ])
objected h ok r Whole a d (v.number i j n) = no_objected r Whole (v.number i j n) (elim [ ])
objected h ok r Whole a d (v.string i j s) = no_objected r Whole (v.string i j s) (elim [ ])
objected h ok r Whole a d (v.array i j vs) = no_objected r Whole (v.array i j vs) (elim [ ])
objected h ok r Whole a d (v.object i j members) =
    let ms = listed members in
    like (λ q. is_object q.0 q.1) (elim [ is_object all w ↦ (all, w) ])
    (λ g. elim [ inl b ↦ in_member b | inr q ↦ subst (WrongObject r Whole (v.object i j members)) (sym q.1.1) (gap_or_clash q.0 q.1.0) ])
    (λ g. object_told)
    (thened (eached (h ms) (r ms) (a ms) ms) (λ _. sured (ok ms) (Unlawful i) (d ms)))

pub plain_object : (h : Member → Check) (r : Rule Member) → Follows h r → Follows (object (λ ms. each h ms) check.whatever) (object_of r)
plain_object h r a = objected (λ ms. h) check.whatever (λ ms. r) (λ ms. Unit {0}) (λ ms. a) (λ ms. (λ _. tt, λ _. refl))

-- only where a test is met; unless something holds
pub undered : {L : Type 0} {B : ProfileFault → Type 0} (b : Bool) {c : Check} → Verdict L B c → Verdict (b ≡ true → L) (λ f. (b ≡ true) × B f) (cond b c fine)
undered true a = like (λ l _. l) (λ k. k refl) (λ f x. (refl, x)) (λ f x. x.1) a
undered false a = kept (λ e. absurd (both_ways false refl e)) (λ f q. both_ways false refl q.0)

pub unlessed : {P : Type 0} (b : Bool) (h : Value → Check) (r : Rule Value) → Decides b P → Follows h r → Follows (check.unless b h) (unless P r)
unlessed true h r d a v = kept (inl (d.0 refl)) (λ f q. q.0 (d.0 refl))
unlessed {P} false h r d a v =
    let none : P → ⊥ = λ p. both_ways false refl (d.1 p) in
    like inr (elim [ inl p ↦ absurd (none p) | inr l ↦ l ]) (λ f x. (none, x)) (λ f q. q.1) (a v)

-- members by their rows: the names of checks and those of rules agree, row by row, up to what comes behind
abbrev pub Rows : {K : Type 0} → (K → Value → Check) → Table K → Table (Rule Value) → (Table (Rule Value) → Type 0) → Type 0
Rows part nothing l Rest = Rest l
Rows part (row k h t) nothing Rest = ⊥
Rows part (row k h t) (row j r l) Rest = (k ≡ j) × Follows (part h) r × Rows part t l Rest

by_row : {K : Type 0} (part : K → Value → Check) (h : K) (r : Rule Value) (o : Option K) (l : Table (Rule Value)) (m : Member) → Follows (part h) r → Verdict (Named l m) (Misnamed l m) (by part o m) →
    (b : Bool) → Verdict (MatchBool b (r.lawful m.value) (Named l m)) (λ f. MatchBool b (r.broken m.value f) (Misnamed l m f)) (by part (cond b (Some h) o) m)
by_row part h r o l m a rest true = a m.value
by_row part h r o l m a rest false = rest

or_cond : {K : Type 0} (b : Bool) (h : K) (o rest : Option K) → option_or (cond b (Some h) o) rest ≡ cond b (Some h) (option_or o rest)
or_cond true h o rest = refl
or_cond false h o rest = refl

pub rowed : {K : Type 0} (part : K → Value → Check) (rest : List ℕ → Option K) (t : Table K) (l : Table (Rule Value)) →
    Rows part t l (λ end. Follows (named rest part) (named_in end)) → Follows (named (λ n. option_or (lookup t n) (rest n)) part) (named_in l)
rowed part rest nothing l a m = a m
rowed part rest (row k h t) nothing a m = absurd a
rowed part rest (row k h t) (row j r l) a m =
    let n = m.name in
    let o = option_or (lookup t n) (rest n) in
    subst (λ x. Verdict (MatchBool (same n j) (r.lawful m.value) (Named l m)) (λ f. MatchBool (same n j) (r.broken m.value f) (Misnamed l m f)) (by part x m))
    (ap (λ x. cond (same n x) (Some h) o) (sym a.0) ∙ sym (or_cond (same n k) h (lookup t n) (rest n)))
    (by_row part h r o l m a.1 (rowed part rest t l a.2 m) (same n j))

-- no row is left
pub unnamed : {K : Type 0} (part : K → Value → Check) → Follows (named (λ n. None) part) (named_in nothing)
unnamed part m = told (λ x. x) refl (λ f e. e)

-- a whole table
none_else : {K : Type 0} (o : Option K) → option_or o None ≡ o
none_else (Some k) = refl
none_else None = refl

pub tabled : {K : Type 0} (part : K → Value → Check) (t : Table K) (l : Table (Rule Value)) → Rows part t l (λ end. Follows (named (λ n. None) part) (named_in end)) → Follows (named (lookup t) part) (named_in l)
tabled part t l a m = subst (λ o. Verdict (Named l m) (Misnamed l m) (by part o m)) (none_else (lookup t m.name)) (rowed part (λ n. None) t l a m)

-- names that stand for something else
by_mapped : {J K : Type 0} (part : K → Value → Check) (under : J → Value → Check) (f : J → K) (o : Option J) (m : Member) → ((j : J) (v : Value) → under j v ≡ part (f j) v) → by under o m ≡ by part (option_map f o) m
by_mapped part under f (Some j) m e = e j m.value
by_mapped part under f None m e = refl

pub relabelled : {J K : Type 0} (part : K → Value → Check) (under : J → Value → Check) (f : J → K) (names : List ℕ → Option J) (l : Table (Rule Value)) → ((j : J) (v : Value) → under j v ≡ part (f j) v) →
    Follows (named names under) (named_in l) → Follows (named (λ n. option_map f (names n)) part) (named_in l)
relabelled part under f names l e a m = subst (Verdict (Named l m) (Misnamed l m)) (by_mapped part under f (names m.name) m e) (a m)

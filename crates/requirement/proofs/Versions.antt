-- Versions: parts joined by dots.
use Rattle.std.proofs.Common.{◌≡◌, ℕ, ◌≤◌, Bool, true, false, cond, eqb, leb, ◌↔◌, List, [], ◌∷◌, ◌++◌, length, is_some, Some, None, Decides, Option, sym, refl, ap, ◌∙◌, subst, arith}
use Rattle.std.specs.List.{AllByRecursion}
use Rattle.std.proofs.lemmas.Bool.{both_ways, le-leb, leb-true, eqb-true, ne_eqb, cond-true}
use Rattle.syntax.specs.Bytes.{contents}
use Rattle.syntax.specs.Value.{Value}
use Rattle.syntax.specs.Value as v
use Rattle.syntax.specs.Walking.{natural}
use Rattle.requirement.specs.Words.{◌of◌, bounded, greatest, Version, version, version_said, in_front, parts, part, triple, joined}
use Rattle.requirement.specs.Law.{Digits, Part, VersionOf, two, three, AVersion, is_version}
use Rattle.requirement.proofs.Numbers.{some_decides, some_of, natural_says, bounded_says}

-- parts joined by dots again
abbrev dotted : List (List ℕ) → List ℕ
dotted [] = []
dotted (p ∷ []) = p
dotted (p ∷ (q ∷ r)) = p ++ 46 ∷ dotted (q ∷ r)

-- parts are never none, so a byte in front of them is a byte in front of what they join to
in_front_dotted : (t : Bool) (b : ℕ) (p : List ℕ) (ps : List (List ℕ)) → eqb b 46 ≡ t → dotted (in_front t b (p ∷ ps)) ≡ b ∷ dotted (p ∷ ps)
in_front_dotted true b p ps e = ap (λ x. x ∷ dotted (p ∷ ps)) (sym (eqb-true b 46 e))
in_front_dotted false b p [] e = refl
in_front_dotted false b p (q ∷ r) e = refl

some_parts : (s : List ℕ) → (p : List ℕ) × ((ps : List (List ℕ)) × (parts s ≡ p ∷ ps))
some_parts [] = ([], ([], refl))
some_parts (b ∷ s) = go (eqb b 46) (parts s) (some_parts s)
  where
    go : (t : Bool) (qs : List (List ℕ)) → (p : List ℕ) × ((ps : List (List ℕ)) × (qs ≡ p ∷ ps)) → (p : List ℕ) × ((ps : List (List ℕ)) × (in_front t b qs ≡ p ∷ ps))
    go true qs h = ([], (qs, refl))
    go false [] h = (b ∷ [], ([], refl))
    go false (q ∷ qs) h = (b ∷ q, (qs, refl))

dotted_parts : (s : List ℕ) → dotted (parts s) ≡ s
dotted_parts [] = refl
dotted_parts (b ∷ s) =
    let h = some_parts s in
    let p = h.0 in
    let ps = h.1.0 in
    let e = h.1.1 in
    ap (λ x. dotted (in_front (eqb b 46) b x)) e ∙ in_front_dotted (eqb b 46) b p ps refl ∙ ap (λ x. b ∷ x) (ap dotted (sym e) ∙ dotted_parts s)

-- digits have no dot
abbrev Digit : ℕ → Type 0
Digit b = (48 ≤ b) × (b ≤ 57)

no_dot : (b : ℕ) → Digit b → eqb b 46 ≡ false
no_dot b d = ne_eqb b 46 (λ e. omega (arith, d.0))

parts_one : (a : List ℕ) → AllByRecursion Digit a → parts a ≡ a ∷ []
parts_one [] d = refl
parts_one (b ∷ a) d = rw (no_dot b d.0, parts_one a d.1) refl

parts_dot : (a s : List ℕ) → AllByRecursion Digit a → parts (a ++ 46 ∷ s) ≡ a ∷ parts s
parts_dot [] s d = refl
parts_dot (b ∷ a) s d = rw (no_dot b d.0, parts_dot a s d.1) refl

-- a part
five : (s : List ℕ) (d : Digits 18 s) → length s ≤ 5 → Digits 5 s
five s d h = record { some = d.some; few = h; all = d.all }

eighteen : (s : List ℕ) (d : Digits 5 s) → Digits 18 s
eighteen s d = record { some = d.some; few = omega (arith, d.few); all = d.all }

part_reads : (s : List ℕ) (n : ℕ) → part s ≡ Some n → Part s n
part_reads s n e = go (leb (length s) 5) refl e
  where
    go : (t : Bool) → leb (length s) 5 ≡ t → cond t (bounded of (natural s)) None ≡ Some n → Part s n
    go true h f =
        let q = (some_of bounded (natural s) n).0 f in
        let d = (natural_says s q.0).0 q.1 in
        let b = (bounded_says q.0 n).0 q.2 in
        record { digits = five s d.0 (leb-true (length s) 5 h); value = d.1 ∙ b.1; small = subst (λ x. x ≤ greatest) b.1 b.0 }
    go false h f = absurd (both_ways false refl (ap is_some f))

reads_part : (s : List ℕ) (n : ℕ) → Part s n → part s ≡ Some n
reads_part s n p =
    cond-true (leb (length s) 5) (bounded of (natural s)) None (le-leb (length s) 5 p.digits.few)
    ∙ ap (λ o. bounded of o) ((natural_says s n).1 (eighteen s p.digits, p.value)) ∙ (bounded_says n n).1 (p.small, refl)

-- three parts that read as numbers
pub record Three (a b c : Option ℕ) (x : Version) : Type 0 where
  pub first : a ≡ Some x.major
  pub second : b ≡ Some x.minor
  pub third : c ≡ Some x.patch

three_of : (a b c : Option ℕ) (x : Version) → triple a b c ≡ Some x → Three a b c x
three_of (Some a) (Some b) (Some c) x e = let g : record { major = a; minor = b; patch = c } ≡ x = cc in record { first = ap (λ y. Some y.major) g; second = ap (λ y. Some y.minor) g; third = ap (λ y. Some y.patch) g }
three_of (Some a) (Some b) None x e = absurd (both_ways false refl (ap is_some e))
three_of (Some a) None c x e = absurd (both_ways false refl (ap is_some e))
three_of None b c x e = absurd (both_ways false refl (ap is_some e))

-- reading is what the rules say
read_parts : (s : List ℕ) (ps : List (List ℕ)) (x : Version) → parts s ≡ ps → joined ps ≡ Some x → VersionOf s x
read_parts s [] x e f = absurd (both_ways false refl (ap is_some f))
read_parts s (a ∷ []) x e f = absurd (both_ways false refl (ap is_some f))
read_parts s (a ∷ (b ∷ [])) x e f =
    let t = three_of (part a) (part b) (Some 0) x f in
    let z : 0 ≡ x.patch = let h = t.third in cc in
    subst (λ y. VersionOf y x) (sym (ap dotted e) ∙ dotted_parts s)
    (subst (λ n. VersionOf (a ++ 46 ∷ b) (record { major = x.major; minor = x.minor; patch = n })) z (two (part_reads a x.major t.first) (part_reads b x.minor t.second)))
read_parts s (a ∷ (b ∷ (c ∷ []))) x e f =
    let t = three_of (part a) (part b) (part c) x f in
    subst (λ y. VersionOf y x) (sym (ap dotted e) ∙ dotted_parts s) (three (part_reads a x.major t.first) (part_reads b x.minor t.second) (part_reads c x.patch t.third))
read_parts s (a ∷ (b ∷ (c ∷ (d ∷ ps)))) x e f = absurd (both_ways false refl (ap is_some f))

parts_read : (s : List ℕ) (x : Version) → VersionOf s x → joined (parts s) ≡ Some x
parts_read s x (two {a = a} {b = b} {x = m} {y = n} p q) =
    ap joined (parts_dot a b p.digits.all ∙ ap (λ r. a ∷ r) (parts_one b q.digits.all))
    ∙ (λ i. triple (reads_part a m p i) (reads_part b n q i) (Some 0))
parts_read s x (three {a = a} {b = b} {c = c} {x = k} {y = m} {z = n} p q r) =
    ap joined (parts_dot a (b ++ 46 ∷ c) p.digits.all ∙ ap (λ r. a ∷ r) (parts_dot b c q.digits.all ∙ ap (λ r. b ∷ r) (parts_one c r.digits.all)))
    ∙ (λ i. triple (reads_part a k p i) (reads_part b m q i) (reads_part c n r i))

pub version_says : (s : List ℕ) (x : Version) → (joined (parts s) ≡ Some x) ↔ VersionOf s x
version_says s x = (read_parts s (parts s) x refl, parts_read s x)

pub version_decides : (x : Value) → Decides (is_some (version x)) (AVersion x)
version_decides (v.literal i j w) = (λ e. absurd (both_ways false refl e), elim [ ])
version_decides (v.number i j n) = (λ e. absurd (both_ways false refl e), elim [ ])
version_decides (v.string i j s) = (
  λ e. let q = (some_decides (version_said s)).0 e in is_version q.0 ((version_says (contents s) q.0).0 q.1),
  elim [ is_version x h ↦ ap is_some ((version_says (contents s) x).1 h) ],
)
version_decides (v.array i j vs) = (λ e. absurd (both_ways false refl e), elim [ ])
version_decides (v.object i j ms) = (λ e. absurd (both_ways false refl e), elim [ ])

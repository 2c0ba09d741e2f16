-- What is read so far of a part of the grammar, and how one byte or one part more goes on behind it.
use Rattle.std.proofs.Common.{◌≡◌, ℕ, zero, suc, ◌+◌, ◌-◌, ◌<◌, ◌≤◌, true, false, ◌&&◌, eqb, ltb, leb, List, [], ◌∷◌, ◌++◌, length, get_or, Some, None, Option, refl, ◌∙◌, ⊎_elim, arith}
use Rattle.std.proofs.lemmas.Bool.{eqb-true, eqb-false, leb-true, ltb-false, and_parts, and_from, le-leb, not_from_false, both_ways, cases_Bool, cond_both}
use Rattle.syntax.specs.declared.kinds.Digits.TheVariants.{Minus, Zero, Whole, Point, Fraction, Mark, Sign, Power}
use Rattle.syntax.specs.declared.kinds.Digits.{Digits as Form}
use Rattle.syntax.specs.declared.kinds.Letters.{Letters}
use Rattle.syntax.specs.declared.kinds.Letters.TheVariants.{Plain, Escape, Four, Three, Two, One}
use Rattle.syntax.specs.declared.kinds.Literal.{Literal}
use Rattle.syntax.specs.declared.kinds.Literal.TheVariants.{Null, False, True}
use Rattle.syntax.specs.Bytes.{white, digit, hex, unescaped, mark, sign, gap}
use Rattle.syntax.specs.Value.{Value, Items, Members, from, to, item, member, more_items, more_members}
use Rattle.syntax.specs.Value as v
use Rattle.syntax.specs.Grammar.{Byte, Ws, space, Word, letter, Chars, Quoted, Int, Frac, Exp, Number, Spells, Elements, Fields, spelling}
use Rattle.syntax.specs.Grammar as g
use Rattle.syntax.specs.Machine.{next_letters, next_digits, ended, plain as plain_at}
use Rattle.syntax.proofs.Gaps.{gap_white, gap_solid, gap_end}

-- the byte at a place
pub byte_at : (s : List ℕ) (i : ℕ) → i < length s → Byte s i (get_or s i 0) (i + 1)
byte_at s i h = record { inside = h; is = refl; next = refl }

pub known : {s : List ℕ} {i j : ℕ} (b c : ℕ) → eqb b c ≡ true → Byte s i b j → Byte s i c j
known b c e x = record { inside = x.inside; is = x.is ∙ eqb-true b c e; next = x.next }

-- white space
pub ws_more : {s : List ℕ} {i j b a : ℕ} → Ws s i j → Byte s j b a → white b ≡ true → Ws s i a
ws_more g.Ws.none x w = space x w g.Ws.none
ws_more (space y u r) x w = space y u (ws_more r x w)

pub gap_spaces : (s : List ℕ) (i : ℕ) → Ws s i (gap s i)
gap_spaces s i = go (length s - i) i refl
  where
    go : (n j : ℕ) → n ≡ length s - j → Ws s j (gap s j)
    go zero j e = rw (gap_end s j (omega arith)) g.Ws.none
    go (suc n) j e =
        let h : j < length s = omega arith in
        ⊎_elim (λ w. rw (gap_white s j h w) (space (byte_at s j h) w (go n (j + 1) (omega arith))))
        (λ w. rw (gap_solid s j h w) g.Ws.none) (cases_Bool (white (get_or s j 0)))

-- literals
pub word_more : {s : List ℕ} {i j b a : ℕ} {bs : List ℕ} → Word s i j bs → Byte s j b a → Word s i a (bs ++ b ∷ [])
word_more g.Word.done x = letter x g.Word.done
word_more (letter y r) x = letter y (word_more r x)

-- strings
pub chars_more : {s : List ℕ} {i j k : ℕ} → Chars s i j → Chars s j k → Chars s i k
chars_more g.Chars.none c = c
chars_more (g.Chars.char x u r) c = g.Chars.char x u (chars_more r c)
chars_more (g.Chars.escape x y u r) c = g.Chars.escape x y u (chars_more r c)
chars_more (g.Chars.unicode x y a p b q d t e u r) c = g.Chars.unicode x y a p b q d t e u (chars_more r c)

-- the characters from a place on, and of the last one perhaps only the beginning
pub data Part (s : List ℕ) (i : ℕ) : Letters → ℕ → Type 0 where
  plain : {j : ℕ} → Chars s i j → Part s i Plain j
  escape : {a j : ℕ} → Chars s i a → Byte s a 92 j → Part s i Escape j
  four : {a b j : ℕ} → Chars s i a → Byte s a 92 b → Byte s b 117 j → Part s i Four j
  three : {a b c w j : ℕ} → Chars s i a → Byte s a 92 b → Byte s b 117 c → Byte s c w j → hex w ≡ true → Part s i Three j
  two : {a b c d w x j : ℕ} → Chars s i a → Byte s a 92 b → Byte s b 117 c → Byte s c w d → hex w ≡ true → Byte s d x j → hex x ≡ true → Part s i Two j
  one : {a b c d e w x y j : ℕ} → Chars s i a → Byte s a 92 b → Byte s b 117 c → Byte s c w d → hex w ≡ true → Byte s d x e → hex x ≡ true → Byte s e y j → hex y ≡ true → Part s i One j

-- the next beginning, if the string goes on
abbrev pub PartOn : List ℕ → ℕ → Option Letters → ℕ → Type 0
PartOn s i None j = Unit {0}
PartOn s i (Some o) j = Part s i o j

unescaped_by : (b : ℕ) → ltb b 32 ≡ false → eqb b 34 ≡ false → eqb b 92 ≡ false → unescaped b ≡ true
unescaped_by b l q e = and_from _ _ (and_from _ _ (le-leb 32 b (ltb-false b 32 l)) (not_from_false _ q)) (not_from_false _ e)

pub part_more : {s : List ℕ} {i j : ℕ} {o : Letters} (b a : ℕ) → Part s i o j → Byte s j b a → (plain_at o && eqb b 34) ≡ false → PartOn s i (next_letters o b) a
part_more {s} {i} b a (plain c) x q =
    cond_both _ _ _ (λ o. PartOn s i o a) (λ e. escape c (known b 92 e x))
    (λ e. cond_both _ _ _ (λ o. PartOn s i o a) (λ l. tt) (λ l. plain (chars_more c (g.Chars.char x (unescaped_by b l q e) g.Chars.none))))
part_more {s} {i} b a (escape c y) x q =
    cond_both _ _ _ (λ o. PartOn s i o a) (λ e. four c y (known b 117 e x))
    (λ _. cond_both _ _ _ (λ o. PartOn s i o a) (λ w. plain (chars_more c (g.Chars.escape y x w g.Chars.none))) (λ _. tt))
part_more {s} {i} b a (four c y z) x q = cond_both _ _ _ (λ o. PartOn s i o a) (λ w. three c y z x w) (λ _. tt)
part_more {s} {i} b a (three c y z x1 w1) x q = cond_both _ _ _ (λ o. PartOn s i o a) (λ w. two c y z x1 w1 x w) (λ _. tt)
part_more {s} {i} b a (two c y z x1 w1 x2 w2) x q = cond_both _ _ _ (λ o. PartOn s i o a) (λ w. one c y z x1 w1 x2 w2 x w) (λ _. tt)
part_more {s} {i} b a (one c y z x1 w1 x2 w2 x3 w3) x q = cond_both _ _ _ (λ o. PartOn s i o a) (λ w. plain (chars_more c (g.Chars.unicode y z x1 w1 x2 w2 x3 w3 x w g.Chars.none))) (λ _. tt)

-- the string may close only behind whole characters
pub part_whole : {s : List ℕ} {i j : ℕ} {o : Letters} (b : ℕ) → Part s i o j → (plain_at o && eqb b 34) ≡ true → Chars s i j × (eqb b 34 ≡ true)
part_whole b (plain c) e = (c, e)
part_whole b (escape c y) e = absurd (both_ways false refl e)
part_whole b (four c y z) e = absurd (both_ways false refl e)
part_whole b (three c y z x1 w1) e = absurd (both_ways false refl e)
part_whole b (two c y z x1 w1 x2 w2) e = absurd (both_ways false refl e)
part_whole b (one c y z x1 w1 x2 w2 x3 w3) e = absurd (both_ways false refl e)

-- digits
pub digits_more : {s : List ℕ} {i j b a : ℕ} → g.Digits s i j → Byte s j b a → digit b ≡ true → g.Digits s i a
digits_more g.Digits.none x d = g.Digits.more x d g.Digits.none
digits_more (g.Digits.more y u r) x d = g.Digits.more y u (digits_more r x d)

-- a digit other than 0
pub counts : (b : ℕ) → eqb b 48 ≡ false → digit b ≡ true → (49 ≤ b) × (b ≤ 57)
counts b z d = let w = and_parts (leb 48 b) (leb b 57) d in let n = eqb-false b 48 z in let l = leb-true 48 b w.0 in let h = leb-true b 57 w.1 in (omega arith, h)

-- [ minus ] int
pub data Front (s : List ℕ) (i j : ℕ) : Type 0 where
  front : {a : ℕ} → g.Minus s i a → Int s a j → Front s i j

-- [ minus ] int [ frac ] and e
pub data Marked (s : List ℕ) (i j : ℕ) : Type 0 where
  marked : {a b e : ℕ} → Front s i a → Frac s a b → Byte s b e j → mark e ≡ true → Marked s i j

-- a number from a place on, or its beginning
pub data Numeral (s : List ℕ) (i : ℕ) : Form → ℕ → Type 0 where
  minus : {j : ℕ} → Byte s i 45 j → Numeral s i Minus j
  nought : {a j : ℕ} → g.Minus s i a → Byte s a 48 j → Numeral s i Zero j
  whole : {a b c j : ℕ} → g.Minus s i a → Byte s a b c → 49 ≤ b → b ≤ 57 → g.Digits s c j → Numeral s i Whole j
  point : {a j : ℕ} → Front s i a → Byte s a 46 j → Numeral s i Point j
  fraction : {a b c d j : ℕ} → Front s i a → Byte s a 46 b → Byte s b c d → digit c ≡ true → g.Digits s d j → Numeral s i Fraction j
  marked : {j : ℕ} → Marked s i j → Numeral s i Mark j
  signed : {a b j : ℕ} → Marked s i a → Byte s a b j → sign b ≡ true → Numeral s i Sign j
  power : {a b c d j : ℕ} → Marked s i a → g.Sign s a b → Byte s b c d → digit c ≡ true → g.Digits s d j → Numeral s i Power j

-- the next beginning, if the number goes on
abbrev pub NumeralOn : List ℕ → ℕ → Option Form → ℕ → Type 0
NumeralOn s i None j = Unit {0}
NumeralOn s i (Some g) j = Numeral s i g j

pub numeral_more : {s : List ℕ} {i j : ℕ} {f : Form} (b a : ℕ) → Numeral s i f j → Byte s j b a → NumeralOn s i (next_digits f b) a
numeral_more {s} {i} b a (minus m) x =
    cond_both _ _ _ (λ o. NumeralOn s i o a) (λ e. nought (g.Minus.minus m) (known b 48 e x))
    (λ z. cond_both _ _ _ (λ o. NumeralOn s i o a) (λ d. let w = counts b z d in whole (g.Minus.minus m) x w.0 w.1 g.Digits.none) (λ _. tt))
numeral_more {s} {i} b a (nought m y) x =
    let f = front m (g.Int.zero y) in
    cond_both _ _ _ (λ o. NumeralOn s i o a) (λ e. point f (known b 46 e x))
    (λ _. cond_both _ _ _ (λ o. NumeralOn s i o a) (λ e. Numeral.marked (Marked.marked f g.Frac.none x e)) (λ _. tt))
numeral_more {s} {i} b a (whole m y l h ds) x =
    let f = front m (g.Int.whole y l h ds) in
    cond_both _ _ _ (λ o. NumeralOn s i o a) (λ d. whole m y l h (digits_more ds x d))
    (λ _. cond_both _ _ _ (λ o. NumeralOn s i o a) (λ e. point f (known b 46 e x))
    (λ _. cond_both _ _ _ (λ o. NumeralOn s i o a) (λ e. Numeral.marked (Marked.marked f g.Frac.none x e)) (λ _. tt)))
numeral_more {s} {i} b a (point f y) x = cond_both _ _ _ (λ o. NumeralOn s i o a) (λ d. fraction f y x d g.Digits.none) (λ _. tt)
numeral_more {s} {i} b a (fraction f y z d ds) x =
    cond_both _ _ _ (λ o. NumeralOn s i o a) (λ e. fraction f y z d (digits_more ds x e))
    (λ _. cond_both _ _ _ (λ o. NumeralOn s i o a) (λ e. Numeral.marked (Marked.marked f (g.Frac.point y z d ds) x e)) (λ _. tt))
numeral_more {s} {i} b a (Numeral.marked m) x =
    cond_both _ _ _ (λ o. NumeralOn s i o a) (λ d. power m g.Sign.none x d g.Digits.none)
    (λ _. cond_both _ _ _ (λ o. NumeralOn s i o a) (λ e. signed m x e) (λ _. tt))
numeral_more {s} {i} b a (signed m y e) x = cond_both _ _ _ (λ o. NumeralOn s i o a) (λ d. power m (g.Sign.signed y e) x d g.Digits.none) (λ _. tt)
numeral_more {s} {i} b a (power m y z d ds) x = cond_both _ _ _ (λ o. NumeralOn s i o a) (λ e. power m y z d (digits_more ds x e)) (λ _. tt)

number_of : {s : List ℕ} {i j a b : ℕ} → Front s i a → Frac s a b → Exp s b j → Number s i j
number_of {a = a} {b = b} (front {a = m} x y) z e = record { past_minus = m; past_int = a; past_frac = b; minus = x; int = y; frac = z; exp = e }

powered : {s : List ℕ} {i j a b c d : ℕ} → Marked s i a → g.Sign s a b → Byte s b c d → digit c ≡ true → g.Digits s d j → Number s i j
powered (Marked.marked f x y e) z u d ds = number_of f x (g.Exp.power y e z u d ds)

-- a number that may end is a number
pub numeral_whole : {s : List ℕ} {i j : ℕ} {f : Form} → Numeral s i f j → ended f ≡ true → Number s i j
numeral_whole (minus m) e = absurd (both_ways false refl e)
numeral_whole (nought m y) e = number_of (front m (g.Int.zero y)) g.Frac.none g.Exp.none
numeral_whole (whole m y l h ds) e = number_of (front m (g.Int.whole y l h ds)) g.Frac.none g.Exp.none
numeral_whole (point f y) e = absurd (both_ways false refl e)
numeral_whole (fraction f y z d ds) e = number_of f (g.Frac.point y z d ds) g.Exp.none
numeral_whole (Numeral.marked m) e = absurd (both_ways false refl e)
numeral_whole (signed m y u) e = absurd (both_ways false refl e)
numeral_whole (power m y z d ds) e = powered m y z d ds

-- the items of an array that have their commas
pub data ItemsSo (s : List ℕ) : ℕ → ℕ → Items → Type 0 where
  none : {i : ℕ} → ItemsSo s i i v.none
  more : {i c a j : ℕ} {w : Value} {vs : Items} → Ws s i (from w) → Spells s w → Ws s (to w) c → Byte s c 44 a → ItemsSo s a j vs → ItemsSo s i j (item w vs)

pub items_more : {s : List ℕ} {w : Value} {c a i j : ℕ} {vs : Items} → ItemsSo s i j vs → Ws s j (from w) → Spells s w → Ws s (to w) c → Byte s c 44 a → ItemsSo s i a (more_items vs w)
items_more none x y z b = more x y z b none
items_more (more p q t u r) x y z b = more p q t u (items_more r x y z b)

pub items_close : {s : List ℕ} {w : Value} {c a i j : ℕ} {vs : Items} → ItemsSo s i j vs → Ws s j (from w) → Spells s w → Ws s (to w) c → Byte s c 93 a → Elements s i a (more_items vs w)
items_close none x y z b = g.Elements.last_item x y z b
items_close (more p q t u r) x y z b = g.Elements.more_items p q t u (items_close r x y z b)

-- a member without what follows it
pub record Field (s : List ℕ) (i q : ℕ) (n : List ℕ) (w : Value) : Type 0 where
  pub past_name : ℕ
  pub place : ℕ
  pub past_colon : ℕ
  pub before : Ws s i q
  pub quoted : Quoted s q past_name n
  pub behind : Ws s past_name place
  pub colon : Byte s place 58 past_colon
  pub ahead : Ws s past_colon (from w)
  pub spells : Spells s w

-- the members of an object that have their commas
pub data FieldsSo (s : List ℕ) : ℕ → ℕ → Members → Type 0 where
  none : {i : ℕ} → FieldsSo s i i v.end
  more : {i q f a j : ℕ} {n : List ℕ} {w : Value} {ms : Members} → Field s i q n w → Ws s (to w) f → Byte s f 44 a → FieldsSo s a j ms → FieldsSo s i j (member q n w ms)

pub fields_more : {s : List ℕ} {q : ℕ} {n : List ℕ} {w : Value} {c a i j : ℕ} {ms : Members} → FieldsSo s i j ms → Field s j q n w → Ws s (to w) c → Byte s c 44 a → FieldsSo s i a (more_members ms q n w)
fields_more none x z b = more x z b none
fields_more (more p t u r) x z b = more p t u (fields_more r x z b)

pub fields_close : {s : List ℕ} {q : ℕ} {n : List ℕ} {w : Value} {c a i j : ℕ} {ms : Members} → FieldsSo s i j ms → Field s j q n w → Ws s (to w) c → Byte s c 125 a → Fields s i a (more_members ms q n w)
fields_close none x z b = g.Fields.last_field x.before x.quoted x.behind x.colon x.ahead x.spells z b
fields_close (more p t u r) x z b = g.Fields.more_fields p.before p.quoted p.behind p.colon p.ahead p.spells t u (fields_close r x z b)

-- what stands in the bytes ends within them
byte_within : {s : List ℕ} {i b j : ℕ} → Byte s i b j → j ≤ length s
byte_within x = let h = x.inside in let e = x.next in omega arith

word_within : {s : List ℕ} {i j : ℕ} {bs : List ℕ} → i ≤ length s → Word s i j bs → j ≤ length s
word_within h g.Word.done = h
word_within h (letter x r) = word_within (byte_within x) r

digits_within : {s : List ℕ} {i j : ℕ} → i ≤ length s → g.Digits s i j → j ≤ length s
digits_within h g.Digits.none = h
digits_within h (g.Digits.more x d r) = digits_within (byte_within x) r

int_within : {s : List ℕ} {i j : ℕ} → Int s i j → j ≤ length s
int_within (g.Int.zero x) = byte_within x
int_within (g.Int.whole x l h r) = digits_within (byte_within x) r

frac_within : {s : List ℕ} {i j : ℕ} → i ≤ length s → Frac s i j → j ≤ length s
frac_within h g.Frac.none = h
frac_within h (g.Frac.point x y d r) = digits_within (byte_within y) r

exp_within : {s : List ℕ} {i j : ℕ} → i ≤ length s → Exp s i j → j ≤ length s
exp_within h g.Exp.none = h
exp_within h (g.Exp.power x m y z d r) = digits_within (byte_within z) r

literal_within : {s : List ℕ} {i j : ℕ} (w : Literal) → Word s i j (spelling w) → j ≤ length s
literal_within Null (letter x r) = word_within (byte_within x) r
literal_within False (letter x r) = word_within (byte_within x) r
literal_within True (letter x r) = word_within (byte_within x) r

elements_within : {s : List ℕ} {i j : ℕ} {vs : Items} → Elements s i j vs → j ≤ length s
elements_within (g.Elements.last_item x y z b) = byte_within b
elements_within (g.Elements.more_items x y z b r) = elements_within r

fields_within : {s : List ℕ} {i j : ℕ} {ms : Members} → Fields s i j ms → j ≤ length s
fields_within (g.Fields.last_field x n y c z u a b) = byte_within b
fields_within (g.Fields.more_fields x n y c z u a b r) = fields_within r

pub within : {s : List ℕ} {w : Value} → Spells s w → to w ≤ length s
within (g.Spells.literal {w = w} x) = literal_within w x
within (g.Spells.number x e) = exp_within (frac_within (int_within x.int) x.frac) x.exp
within (g.Spells.string x) = byte_within x.closes
within (g.Spells.no_items x y b) = byte_within b
within (g.Spells.array x r) = elements_within r
within (g.Spells.no_members x y b) = byte_within b
within (g.Spells.object x r) = fields_within r

-- RFC 8259 by its productions, over the places of the bytes s: each relation says what stands from the place i up to the place j.
use Rattle.std.specs.Prelude.{◌≡◌, ℕ, ◌+◌, ◌<◌, ◌≤◌, true, List, [], ◌∷◌, ◌++◌, length, codes, slice_index_or}
use Rattle.std.specs.List.{between}
use Rattle.syntax.specs.declared.kinds.Literal.{Literal}
use Rattle.syntax.specs.declared.kinds.Literal.TheVariants.{Null, False, True}
use Rattle.syntax.specs.Bytes.{white, digit, hex, escaped, unescaped, mark, sign}
use Rattle.syntax.specs.Value.{Value, Items, Members, from, to}
use Rattle.syntax.specs.Value as v

-- the byte b stands at i, and j is the next place
pub record Byte (s : List ℕ) (i b j : ℕ) : Type 0 where
  pub inside : i < length s
  pub is : slice_index_or s i 0 ≡ b
  pub next : j ≡ i + 1

-- ws
pub data Ws (s : List ℕ) : ℕ → ℕ → Type 0 where
  none : {i : ℕ} → Ws s i i
  space : {i b a j : ℕ} → Byte s i b a → white b ≡ true → Ws s a j → Ws s i j

-- the bytes of a list, one after the other
pub data Word (s : List ℕ) : ℕ → ℕ → List ℕ → Type 0 where
  done : {i : ℕ} → Word s i i []
  letter : {i b a j : ℕ} {bs : List ℕ} → Byte s i b a → Word s a j bs → Word s i j (b ∷ bs)

abbrev pub spelling : Literal → List ℕ
spelling Null = codes "null"
spelling False = codes "false"
spelling True = codes "true"

-- *char: a byte that stands for itself, a backslash and a letter, or a backslash, u and four hexadecimal digits
pub data Chars (s : List ℕ) : ℕ → ℕ → Type 0 where
  none : {i : ℕ} → Chars s i i
  char : {i b a j : ℕ} → Byte s i b a → unescaped b ≡ true → Chars s a j → Chars s i j
  escape : {i a e b j : ℕ} → Byte s i 92 a → Byte s a e b → escaped e ≡ true → Chars s b j → Chars s i j
  unicode : {i a b w c x d y e z f j : ℕ} → Byte s i 92 a → Byte s a 117 b → Byte s b w c → hex w ≡ true → Byte s c x d → hex x ≡ true → Byte s d y e → hex y ≡ true → Byte s e z f → hex z ≡ true → Chars s f j → Chars s i j

-- string: its bytes n stand between two quotes
pub record Quoted (s : List ℕ) (i j : ℕ) (n : List ℕ) : Type 0 where
  pub inner : ℕ
  pub close : ℕ
  pub opens : Byte s i 34 inner
  pub chars : Chars s inner close
  pub closes : Byte s close 34 j
  pub bytes : n ≡ between inner close s

-- *DIGIT
pub data Digits (s : List ℕ) : ℕ → ℕ → Type 0 where
  none : {i : ℕ} → Digits s i i
  more : {i b a j : ℕ} → Byte s i b a → digit b ≡ true → Digits s a j → Digits s i j

-- [ minus ]
pub data Minus (s : List ℕ) : ℕ → ℕ → Type 0 where
  none : {i : ℕ} → Minus s i i
  minus : {i j : ℕ} → Byte s i 45 j → Minus s i j

-- int = zero / ( digit1-9 *DIGIT )
pub data Int (s : List ℕ) : ℕ → ℕ → Type 0 where
  zero : {i j : ℕ} → Byte s i 48 j → Int s i j
  whole : {i b a j : ℕ} → Byte s i b a → 49 ≤ b → b ≤ 57 → Digits s a j → Int s i j

-- [ frac ], frac = decimal-point 1*DIGIT
pub data Frac (s : List ℕ) : ℕ → ℕ → Type 0 where
  none : {i : ℕ} → Frac s i i
  point : {i a b c j : ℕ} → Byte s i 46 a → Byte s a b c → digit b ≡ true → Digits s c j → Frac s i j

-- [ minus / plus ]
pub data Sign (s : List ℕ) : ℕ → ℕ → Type 0 where
  none : {i : ℕ} → Sign s i i
  signed : {i b j : ℕ} → Byte s i b j → sign b ≡ true → Sign s i j

-- [ exp ], exp = e [ minus / plus ] 1*DIGIT
pub data Exp (s : List ℕ) : ℕ → ℕ → Type 0 where
  none : {i : ℕ} → Exp s i i
  power : {i e a c b d j : ℕ} → Byte s i e a → mark e ≡ true → Sign s a c → Byte s c b d → digit b ≡ true → Digits s d j → Exp s i j

-- number = [ minus ] int [ frac ] [ exp ]
pub record Number (s : List ℕ) (i j : ℕ) : Type 0 where
  pub past_minus : ℕ
  pub past_int : ℕ
  pub past_frac : ℕ
  pub minus : Minus s i past_minus
  pub int : Int s past_minus past_int
  pub frac : Frac s past_int past_frac
  pub exp : Exp s past_frac j

-- The value that stands from its first place up to its last. White space stands where the structural characters have it;
-- around a value it belongs to what the value stands in.
mutual
  pub data Spells (s : List ℕ) : Value → Type 0 where
    literal : {i j : ℕ} {w : Literal} → Word s i j (spelling w) → Spells s (v.literal i j w)
    number : {i j : ℕ} {n : List ℕ} → Number s i j → n ≡ between i j s → Spells s (v.number i j n)
    string : {i j : ℕ} {n : List ℕ} → Quoted s i j n → Spells s (v.string i j n)
    no_items : {i a b j : ℕ} → Byte s i 91 a → Ws s a b → Byte s b 93 j → Spells s (v.array i j v.none)
    array : {i a j : ℕ} {vs : Items} → Byte s i 91 a → Elements s a j vs → Spells s (v.array i j vs)
    no_members : {i a b j : ℕ} → Byte s i 123 a → Ws s a b → Byte s b 125 j → Spells s (v.object i j v.end)
    object : {i a j : ℕ} {ms : Members} → Byte s i 123 a → Fields s a j ms → Spells s (v.object i j ms)

  -- values between commas, up to the closing bracket
  pub data Elements (s : List ℕ) : ℕ → ℕ → Items → Type 0 where
    last_item : {i c j : ℕ} {w : Value} → Ws s i (from w) → Spells s w → Ws s (to w) c → Byte s c 93 j → Elements s i j (v.item w v.none)
    more_items : {i c a j : ℕ} {w : Value} {vs : Items} → Ws s i (from w) → Spells s w → Ws s (to w) c → Byte s c 44 a → Elements s a j vs → Elements s i j (v.item w vs)

  -- members between commas, up to the closing brace
  pub data Fields (s : List ℕ) : ℕ → ℕ → Members → Type 0 where
    last_field : {i q c d e f j : ℕ} {n : List ℕ} {w : Value} → Ws s i q → Quoted s q c n → Ws s c d → Byte s d 58 e → Ws s e (from w) → Spells s w → Ws s (to w) f → Byte s f 125 j → Fields s i j (v.member q n w v.end)
    more_fields : {i q c d e f a j : ℕ} {n : List ℕ} {w : Value} {ms : Members} → Ws s i q → Quoted s q c n → Ws s c d → Byte s d 58 e → Ws s e (from w) → Spells s w → Ws s (to w) f → Byte s f 44 a → Fields s a j ms → Fields s i j (v.member q n w ms)

-- JSON-text = ws value ws: the bytes s are a JSON text, which spells the value w
pub record Text (s : List ℕ) (w : Value) : Type 0 where
  pub before : Ws s 0 (from w)
  pub spells : Spells s w
  pub behind : Ws s (to w) (length s)

-- some JSON text begins with the bytes s
abbrev pub Begins : List ℕ → Type 0
Begins s = (q : List ℕ) × ((w : Value) × Text (s ++ q) w)

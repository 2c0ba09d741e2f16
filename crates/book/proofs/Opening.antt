-- The table of a book keeps its pairs.
use Rattle.std.proofs.Common.{◌≡◌, ℕ, ◌+◌, ◌-◌, ◌<◌, ◌≤◌, List, [], ◌∷◌, map, length, get_or, Some, None, Option, Err, sym, refl, ap, ◌∙◌, subst, arith}
use Rattle.std.specs.List.{between, AllByRecursion}
use Rattle.std.proofs.ByRecursion.{All-get_or, All-weaker}
use Rattle.std.proofs.lemmas.List.{get_or-map, get_or_past, length-map}
use Rattle.syntax.specs.Bytes.{gap}
use Rattle.syntax.specs.Value.{string, from}
use Rattle.syntax.specs.Reading.{longest}
use Rattle.syntax.specs.Walking.{Member, Step, member_at, members_from, rest_members}
use Rattle.syntax.proofs.Walks.{read_place, member_made, member_name, members_none, members_more, string_end}
use Rattle.store.specs.Pairs.{Pair, nothing, path_at, body_at}
use Rattle.book.specs.declared.refusal.BookRefusal.{BookRefusal}
use Rattle.book.specs.declared.row.Row.{Row}
use Rattle.book.specs.Listing.{pair, listing, pairs_or_none, opened, nobody}
use Rattle.book.specs.Rows.{Begins, Ends, Keeps, row_of, blank}

-- past the end path and body are empty
pub path_past : (ps : List Pair) (n : ℕ) → length ps ≤ n → [] ≡ path_at ps n
path_past ps n h = sym (ap (λ (p : Pair). p.path) (get_or_past ps n nothing h))

pub body_past : (ps : List Pair) (n : ℕ) → length ps ≤ n → [] ≡ body_at ps n
body_past ps n h = sym (ap (λ (p : Pair). p.body) (get_or_past ps n nothing h))

-- a refused book
pub keeps_none : (s : List ℕ) (e : BookRefusal) (rows : List Row) → listing s ≡ Err e → rows ≡ [] → Keeps s rows
unfolding opened
keeps_none s e rows h z =
    let l : length rows ≡ 0 = ap length z in
    record {
      counted = l ∙ sym (ap (λ o. length (pairs_or_none o)) h);
      within = λ k b. absurd (omega arith);
      paths = λ k b. absurd (omega arith);
      bodies = λ k b. absurd (omega arith);
      places = λ k b. absurd (omega arith);
    }

module _ (s : List ℕ) where
  -- a member stands within the bytes, and its name between its quotes
  pub record Stands (m : Member) : Type 0 where
    pub ends : Ends (length s) m
    pub letters : m.name ≡ between (m.at + 1) (m.at + 1 + length m.name) s

  stands : (i : ℕ) (t : Step Member) → member_at s i ≡ Some t → Stands t.here
  stands i t e =
      let made = member_made s i t e in
      let name = read_place s i (string t.here.at made.close t.here.name) made.name_read in
      let long = string_end s i t.here.at made.close t.here.name made.name_read in
      let value = read_place s (gap s made.close + 1) t.here.value made.value_read in
      let shorter : t.here.at + length t.here.name + 2 - 1 ≡ t.here.at + 1 + length t.here.name = omega arith in
      record {
        ends = record { closed = omega arith; ordered = omega arith; ended = omega arith };
        letters = member_name s i t e ∙ ap (λ j. between (t.here.at + 1) j s) shorter;
      }

  -- and so do all from a place on
  pub all_stand : (ms : List Member) (i : ℕ) → ms ≡ members_from s i → AllByRecursion Stands ms
  all_stand [] i e = tt
  all_stand (m ∷ ms) i e = by (member_at s i) refl (λ j d. all_stand ms j d)
    where
      on : (o : Option ℕ) → rest_members s o ≡ ms → ((j : ℕ) → ms ≡ members_from s j → AllByRecursion Stands ms) → AllByRecursion Stands ms
      on None f behind = subst (AllByRecursion Stands) f tt
      on (Some j) f behind = behind j (sym f)

      by : (o : Option (Step Member)) → member_at s i ≡ o → ((j : ℕ) → ms ≡ members_from s j → AllByRecursion Stands ms) → Stands m × AllByRecursion Stands ms
      by None f behind = let h : [] ≡ m ∷ ms = sym (members_none s i f) ∙ sym e in let z : ◌≡◌ {A = ℕ} 0 1 = cc in absurd (omega arith)
      by (Some t) f behind =
          let h : t.here ∷ rest_members s t.next ≡ m ∷ ms = sym (members_more s i t f) ∙ sym e in
          let a : t.here ≡ m = cc in
          let b : rest_members s t.next ≡ ms = cc in
          (subst Stands a (stands i t f), on t.next b behind)

  module _ (ms : List Member) (b : Begins s ms) where
    all : AllByRecursion Stands ms
    all = all_stand ms b.place b.come

    pub all_end : AllByRecursion (Ends longest) ms
    all_end =
        All-weaker Stands (Ends longest)
        (λ m h. let l = b.short in record { closed = omega (arith, h.ends.closed); ordered = h.ends.ordered; ended = omega (arith, h.ends.ended) }) ms all

    opened_is : opened s ≡ map (pair s) ms
    unfolding opened
    opened_is = ap pairs_or_none b.lists

    pub keeps_all : (rows : List Row) → rows ≡ map row_of ms → Keeps s rows
    keeps_all rows e =
        record {
          counted = long ∙ sym (length-map ms (pair s)) ∙ sym (ap length opened_is);
          within = λ k h. let m = marks k h in let r = row k h in subst Inside (sym r) (omega (arith, m.ends.closed), omega (arith, m.ends.closed), m.ends.ordered, m.ends.ended);
          paths = λ k h. ap (λ (p : Pair). p.path) (pair_is k h) ∙ (marks k h).letters ∙ sym (ap (λ (r : Row). between r.path.start r.path.end s) (row k h));
          bodies = λ k h. ap (λ (p : Pair). p.body) (pair_is k h) ∙ sym (ap (λ (r : Row). between r.body.start r.body.end s) (row k h));
          places = λ k h. (
            ap (λ (r : Row). r.path.start) (row k h) ∙ sym (ap (λ us. (get_or us k nobody).at + 1) b.members),
            ap (λ (r : Row). r.body.start) (row k h) ∙ sym (ap (λ us. from (get_or us k nobody).value) b.members),
          );
        }
      where
        Inside : Row → Type 0
        Inside r = (r.path.start ≤ r.path.end) × (r.path.end ≤ length s) × (r.body.start ≤ r.body.end) × (r.body.end ≤ length s)

        long : length rows ≡ length ms
        long = ap length e ∙ length-map ms row_of

        row : (k : ℕ) → k < length rows → get_or rows k blank ≡ row_of (get_or ms k nobody)
        row k h = ap (λ rs. get_or rs k blank) e ∙ get_or-map row_of ms k nobody blank (omega (arith, long))

        marks : (k : ℕ) → k < length rows → Stands (get_or ms k nobody)
        marks k h = All-get_or Stands ms k nobody (omega (arith, long)) all

        pair_is : (k : ℕ) → k < length rows → get_or (opened s) k nothing ≡ pair s (get_or ms k nobody)
        pair_is k h = ap (λ ps. get_or ps k nothing) opened_is ∙ get_or-map (pair s) ms k nobody nothing (omega (arith, long))

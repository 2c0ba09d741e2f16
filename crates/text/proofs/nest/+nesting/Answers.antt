use Rattle.std.proofs.Common.{◌≡◌, ℕ, ◌+◌, ◌<◌, ◌≤◌, List, [], ◌∷◌, ◌++◌, length, drop, Some, None, sym, refl, ap, ◌∙◌, subst, arith}
use Rattle.std.proofs.lemmas.Result.{err_from_is_err_and}
use Rattle.syntax.specs.Machine.{limits, fault, live, Frame, in_array, value, first, after, name1, step_live}
use Rattle.syntax.specs.Steps.{Leads}
use Rattle.syntax.proofs.Runs.{at_byte, fails, fails_end}
use Rattle.text.specs.Rows.{noted, checked}
use Rattle.text.proofs.Scans.{over_gap}
use Rattle.text.proofs.Nests.{first_name, opens, opens_not}
use Rattle.text.proofs.Items.{ComesTo, no_items, some_items, item_read, items_end, next_item, no_comma}
use Rattle.std.proofs.lemmas.List.{append-nil}
use Rattle.std.proofs.Math.Seq.{drop-append_seam}
use Rattle.names.specs.declared.span.Span.{Span}
use Rattle.names.specs.Repeats.{FirstRepeat}
use Rattle.text.proofs.Members.{Named, Goes, inside, name_read, colon_read, colon_out, value_read, value_out, closed, comma, neither, next_name, no_members, no_names, noted_behind, noted_length, none_repeats, one_repeats}
use Rattle.text.proofs.nest.+nesting.Goals as goal
use Rattle.text.proofs.nest.+nesting.Goals.{array-After-skip-i, array-After-skip-close, members-After-skip-i, members-After-note, members-After-value_here, members-After-skip-close}

pub array-returns-then-depth-eq0-clause-reads : goal.array-returns-then-depth-eq0-clause-reads
array-returns-then-depth-eq0-clause-reads g t c = λ k n.
    fails (limits g.N.OpenNames.distinct) c.args.s.now c.args.open (live value k) _ c.requires.within (ap (λ b. step_live (limits g.N.OpenNames.distinct) value k b c.args.open) c.requires.bracket ∙ opens_not g.N.OpenNames.distinct k c.args.depth c.args.open (first c.args.open) n c.if-depth-eq0.true)
    ∙ ap fault (sym c.fault.ensures)

-- the bracket, and the white space behind it
opened : (g : _) (t : ℕ) (c : array-After-skip-i g t) → ComesTo g.N.OpenNames.distinct c.args.depth c.args.s.now c.args.open c.skip-i.result (live (first c.args.open))
opened g t c k n =
    let s = c.args.s.now in
    let p = c.args.open in
    at_byte (limits g.N.OpenNames.distinct) s p 91 (live value k) (live (first p) k) c.requires.within c.requires.bracket (opens g.N.OpenNames.distinct k c.args.depth p (first p) n c.if-depth-eq0.false)
    ∙ over_gap (limits g.N.OpenNames.distinct) s (p + 1) c.skip-i.result (live (first p) k) tt c.skip-i.ensures.is

pub array-returns-then-stands-clause-reads : goal.array-returns-then-stands-clause-reads
array-returns-then-stands-clause-reads g t c =
    let here = c.stands.ensures.taken c.if-stands.true in
    no_items g.N.OpenNames.distinct c.args.depth c.args.s.now c.args.open c.skip-i.result (omega arith) (opened g t (goal.at.array-returns-then-stands-clause-reads g t c).After-skip-i) here.0 here.1

pub array-items-init : goal.array-items-init
array-items-init g t c = record {
  same = refl;
  so_far =
      some_items g.N.OpenNames.distinct c.args.depth c.args.s.now c.args.open c.skip-i.result (omega arith) (opened g t (goal.at.array-items-init g t c).After-skip-i)
      (c.skip-i.ensures.within (omega arith)) c.skip-i.ensures.stops (c.stands.ensures.left c.if-stands.false);
}

-- the item and the white space behind it
item : (g : _) (t : ℕ) (c : array-After-skip-close g t) → ComesTo g.N.OpenNames.distinct c.args.depth c.args.s.now c.args.open c.skip-close.result (λ k. live (after c.in_ok-item.ensures.reads.2.0) (in_array c.args.open c.items.invariant.so_far.vs ∷ k))
item g t c = item_read g.N.OpenNames.distinct c.args.depth c.args.s.now c.args.open c.items.i c.items.invariant.so_far c.in_ok-item.item c.skip-close.result (omega (arith, c.if-depth-eq0.false)) c.in_ok-item.ensures.reads c.skip-close.ensures.is

pub array-returns-then-stands-2-clause-reads : goal.array-returns-then-stands-2-clause-reads
array-returns-then-stands-2-clause-reads g t c =
    let here = c.stands-in-items.ensures.taken c.if-stands-2.true in
    items_end g.N.OpenNames.distinct c.args.depth c.args.s.now c.args.open c.in_ok-item.ensures.reads.2.0 c.items.invariant.so_far.vs c.skip-close.result (item g t (goal.at.array-returns-then-stands-2-clause-reads g t c).After-skip-close)
    (omega (arith, c.in_ok-item.ensures.reads.0, c.items.invariant.so_far.past)) here.0 here.1

pub array-returns-then-not-stands-clause-reads : goal.array-returns-then-not-stands-clause-reads
array-returns-then-not-stands-clause-reads g t c =
    let out = no_comma g.N.OpenNames.distinct c.args.depth c.args.s.now c.args.open c.in_ok-item.ensures.reads.2.0 c.items.invariant.so_far.vs c.skip-close.result (item g t (goal.at.array-returns-then-not-stands-clause-reads g t c).After-skip-close) c.skip-close.ensures.stops (c.stands-in-items.ensures.left c.if-stands-2.false) (c.stands-in-items-2.ensures.left c.if-not-stands.true) in
    λ k n. out k n ∙ ap fault (sym c.fault-then-not-stands.ensures)

pub array-items-preserved : goal.array-items-preserved
array-items-preserved g t c =
    let here = c.stands-in-items-2.ensures.taken c.if-not-stands.false in
    record {
      same = c.value_here.ensures.same ∙ c.items.invariant.same;
      so_far =
          next_item g.N.OpenNames.distinct c.args.depth c.args.s.now c.args.open c.in_ok-item.ensures.reads.2.0 c.items.invariant.so_far.vs c.skip-close.result (item g t (goal.at.array-items-preserved g t c).After-skip-close) c.skip-i-in-items.result here.0 here.1 c.skip-i-in-items.ensures.is
          (omega (arith, c.in_ok-item.ensures.reads.0, c.items.invariant.so_far.past)) (c.skip-i-in-items.ensures.within (omega (arith, here.0))) c.skip-i-in-items.ensures.stops;
    }

pub value_here-returns-then-at-s-clause-reads : goal.value_here-returns-then-at-s-clause-reads
value_here-returns-then-at-s-clause-reads g t c = λ k n. fails_end (limits g.N.OpenNames.distinct) c.args.s.now c.args.at (live value k) _ c.if-at-s.true refl ∙ ap fault (sym c.fault.ensures)

pub value_here-returns-in_default-clause-reads : goal.value_here-returns-in_default-clause-reads
value_here-returns-in_default-clause-reads g t c = c.scalar.ensures (limits g.N.OpenNames.distinct) c.args.depth

pub object-returns-then-depth-eq0-clause-reads : goal.object-returns-then-depth-eq0-clause-reads
object-returns-then-depth-eq0-clause-reads g t c = λ k n.
    fails (limits g.N.OpenNames.distinct) c.args.s.now c.args.open (live value k) _ c.requires.within (ap (λ b. step_live (limits g.N.OpenNames.distinct) value k b c.args.open) c.requires.brace ∙ opens_not g.N.OpenNames.distinct k c.args.depth c.args.open (name1 c.args.open) n c.if-depth-eq0.true)
    ∙ ap fault (sym c.fault.ensures)

-- the names that an object takes off are its own
behind_mark : (old ns now : List Span) (m : ℕ) → m ≡ length old → now ≡ old ++ ns → drop m now ≡ ns
behind_mark old ns now m e f = ap (λ k. drop k now) e ∙ ap (drop (length old)) f ∙ drop-append_seam old ns

pub object-returns-in-Some-clause-reads : goal.object-returns-in-Some-clause-reads
object-returns-in-Some-clause-reads g t c =
    let left = c.members-read.ensures in
    let own = behind_mark (g.N.OpenNames.kept c.args.names.now) left.0 (g.N.OpenNames.kept c.members-read.new.names) c.count-mark.result c.count-mark.ensures left.1 in
    let found = one_repeats g.N.OpenNames.distinct c.args.depth c.args.s.now c.args.open left.0 _ c.in-Some.name left.2 (subst (λ ns. FirstRepeat c.args.s.now ns (Some c.in-Some.name)) own c.in-Some.ensures.first) left.3 in
    λ k l. found k l ∙ ap fault (sym c.fault-in-Some.ensures)

pub object-returns-clause-reads : goal.object-returns-clause-reads
object-returns-clause-reads g t c =
    let left = c.members-read.ensures in
    let own = behind_mark (g.N.OpenNames.kept c.args.names.now) left.0 (g.N.OpenNames.kept c.members-read.new.names) c.count-mark.result c.count-mark.ensures left.1 in
    none_repeats g.N.OpenNames.distinct c.args.depth c.args.s.now c.args.open left.0 _ left.2 (subst (λ ns. FirstRepeat c.args.s.now ns None) own c.in_default.ensures.first) left.3

-- the brace, and the white space behind it
begun : (g : _) (t : ℕ) (c : members-After-skip-i g t) (k : List Frame) → length k + c.args.depth ≡ 16 → Leads (limits g.N.OpenNames.distinct) c.args.s.now c.args.open (live value k) c.skip-i.result (live (name1 c.args.open) k)
begun g t c k n =
    let s = c.args.s.now in
    let p = c.args.open in
    at_byte (limits g.N.OpenNames.distinct) s p 123 (live value k) (live (name1 p) k) c.requires.within c.requires.brace (opens g.N.OpenNames.distinct k c.args.depth p (name1 p) n (λ e. omega (arith, c.requires.shallow)))
    ∙ over_gap (limits g.N.OpenNames.distinct) s (p + 1) c.skip-i.result (live (name1 p) k) tt c.skip-i.ensures.is

pub members-returns-then-stands : goal.members-returns-then-stands
members-returns-then-stands g t c =
    let here = c.stands.ensures.taken c.if-stands.true in
    ([], sym (append-nil (g.N.OpenNames.kept c.args.names.now)), tt, no_members g.N.OpenNames.distinct c.args.depth c.args.s.now c.args.open c.skip-i.result (omega arith) here.0 here.1 (begun g t (goal.at.members-returns-then-stands g t c).After-skip-i))

pub members-members-init : goal.members-members-init
members-members-init g t c =
    let s = c.args.s.now in
    let p = c.args.open in
    let i = c.skip-i.result in
    record {
      names = [];
      behind = sym (append-nil (g.N.OpenNames.kept c.args.names.now));
      so_far = no_names g.N.OpenNames.distinct c.args.depth s p i _ (omega arith) (c.skip-i.ensures.within (omega arith)) c.skip-i.ensures.stops (λ e. omega (arith, (c.requires.room e).0)) (λ k n.
          begun g t (goal.at.members-members-init g t c).After-skip-i k n ∙ first_name (limits g.N.OpenNames.distinct) s i k c.skip-i.ensures.stops p (c.stands.ensures.left c.if-stands.false));
    }

-- the names of the object so far, with the one that was just read, behind the others
abbrev Noted : (g : _) (t : ℕ) (c : members-After-note g t) → List Span
Noted g t c = noted g.N.OpenNames.distinct c.members.invariant.names c.members.i c.in_ok-quote.quote

behind_others : (g : _) (t : ℕ) (c : members-After-note g t) → g.N.OpenNames.kept c.note.new.self ≡ g.N.OpenNames.kept c.args.names.now ++ Noted g t c
behind_others g t c =
    let b = g.N.OpenNames.distinct in
    c.note.ensures ∙ ap (λ l. noted b l c.members.i c.in_ok-quote.quote) c.members.invariant.behind ∙ noted_behind b (g.N.OpenNames.kept c.args.names.now) c.members.invariant.names c.members.i c.in_ok-quote.quote

one_more : (g : _) (t : ℕ) (c : members-After-note g t) → length (g.N.OpenNames.kept c.note.new.self) ≤ length (g.N.OpenNames.kept c.members.names) + 1
one_more g t c = omega (arith, ap length c.note.ensures, noted_length g.N.OpenNames.distinct (g.N.OpenNames.kept c.members.names) c.members.i c.in_ok-quote.quote)

named : (g : _) (t : ℕ) (c : members-After-note g t) → Named g.N.OpenNames.distinct c.args.depth c.args.s.now c.args.open c.members.i c.in_ok-quote.quote (Noted g t c)
named g t c = name_read g.N.OpenNames.distinct c.args.depth c.args.s.now c.args.open c.members.i c.in_ok-quote.quote c.members.invariant.names _ c.members.invariant.so_far c.in_ok-quote.ensures

pub members-returns-in_err-from : goal.members-returns-in_err-from
members-returns-in_err-from g t c =
    let at = (goal.at.members-returns-in_err-from g t c).After-note in
    let x = err_from_is_err_and c.from_residual-in_err-from.result c.from_residual-in_err-from.ensures.1 in
    (Noted g t at, behind_others g t at, (named g t at).up, rw (x.1, x.2) (colon_out g.N.OpenNames.distinct c.args.depth c.args.s.now c.args.open c.members.i c.in_ok-quote.quote (Noted g t at) (named g t at) _ c.in_err-from.ensures))

-- up to the value, which leaves the names as they are
before : (g : _) (t : ℕ) (c : members-After-value_here g t) → Goes g.N.OpenNames.distinct c.args.depth c.args.s.now c.args.open (Noted g t (goal.at.members-After-value_here g t c).After-note) c.skip.result (λ k. live value (inside c.args.s.now c.args.open (named g t (goal.at.members-After-value_here g t c).After-note).ms c.members.i c.in_ok-quote.quote ∷ k))
before g t c =
    let at = (goal.at.members-After-value_here g t c).After-note in
    colon_read g.N.OpenNames.distinct c.args.depth c.args.s.now c.args.open c.members.i c.in_ok-quote.quote (Noted g t at) (named g t at) c.in_ok-from.from c.skip.result c.in_ok-from.ensures c.skip.ensures.is

still_behind : (g : _) (t : ℕ) (c : members-After-value_here g t) → g.N.OpenNames.kept c.value_here.new.names ≡ g.N.OpenNames.kept c.args.names.now ++ Noted g t (goal.at.members-After-value_here g t c).After-note
still_behind g t c = c.value_here.ensures.same ∙ behind_others g t (goal.at.members-After-value_here g t c).After-note

pub members-returns-in_err-member : goal.members-returns-in_err-member
members-returns-in_err-member g t c =
    let at = (goal.at.members-returns-in_err-member g t c).After-note in
    let here = (goal.at.members-returns-in_err-member g t c).After-value_here in
    let x = err_from_is_err_and c.from_residual-in_err-member.result c.from_residual-in_err-member.ensures.1 in
    (Noted g t at, still_behind g t here, (named g t at).up, rw (x.1, x.2) (value_out g.N.OpenNames.distinct c.args.depth c.args.s.now c.args.open c.members.i c.in_ok-quote.quote (Noted g t at) (named g t at) c.skip.result _ c.requires.shallow (before g t here) c.in_err-member.ensures.reads))

-- up to what stands behind the value
behind : (g : _) (t : ℕ) (c : members-After-skip-close g t) → Goes g.N.OpenNames.distinct c.args.depth c.args.s.now c.args.open (Noted g t (goal.at.members-After-skip-close g t c).After-note) c.skip-close.result (λ k. live (after c.in_ok-member.ensures.reads.2.0) (inside c.args.s.now c.args.open (named g t (goal.at.members-After-skip-close g t c).After-note).ms c.members.i c.in_ok-quote.quote ∷ k))
behind g t c =
    let at = (goal.at.members-After-skip-close g t c).After-note in
    let here = (goal.at.members-After-skip-close g t c).After-value_here in
    value_read g.N.OpenNames.distinct c.args.depth c.args.s.now c.args.open c.members.i c.in_ok-quote.quote (Noted g t at) (named g t at) c.skip.result c.in_ok-member.member c.skip-close.result c.requires.shallow (before g t here) c.in_ok-member.ensures.reads c.skip-close.ensures.is

-- a member takes four bytes at least
further : (g : _) (t : ℕ) (c : members-After-skip-close g t) → (c.members.i + 4 ≤ c.skip-close.result) × (c.in_ok-quote.quote < c.skip-close.result)
further g t c =
    let q = c.in_ok-quote.ensures.0 in
    let f = c.in_ok-from.ensures.0 in
    let m = c.in_ok-member.ensures.reads.0 in
    (omega (arith, q, f, m, c.skip.ensures.from, c.skip-close.ensures.from), omega (arith, f, m, c.skip.ensures.from, c.skip-close.ensures.from))

pub members-returns-then-stands-2 : goal.members-returns-then-stands-2
members-returns-then-stands-2 g t c =
    let at = (goal.at.members-returns-then-stands-2 g t c).After-note in
    let near = (goal.at.members-returns-then-stands-2 g t c).After-skip-close in
    let here = c.stands-in-members.ensures.taken c.if-stands-2.true in (
      Noted g t at,
      still_behind g t (goal.at.members-returns-then-stands-2 g t c).After-value_here,
      (named g t at).up,
      closed g.N.OpenNames.distinct c.args.depth c.args.s.now c.args.open c.members.i c.in_ok-quote.quote (Noted g t at) (named g t at) c.in_ok-member.ensures.reads.2.0 c.skip-close.result (behind g t near) (omega (arith, c.members.invariant.so_far.past, (further g t near).0)) here.0 here.1,
    )

pub members-returns-then-not-stands : goal.members-returns-then-not-stands
members-returns-then-not-stands g t c =
    let at = (goal.at.members-returns-then-not-stands g t c).After-note in
    let near = (goal.at.members-returns-then-not-stands g t c).After-skip-close in
    let out = neither g.N.OpenNames.distinct c.args.depth c.args.s.now c.args.open c.members.i c.in_ok-quote.quote (Noted g t at) (named g t at) c.in_ok-member.ensures.reads.2.0 c.skip-close.result (behind g t near) c.skip-close.ensures.stops (c.stands-in-members.ensures.left c.if-stands-2.false) (c.stands-in-members-2.ensures.left c.if-not-stands.true) in (
      Noted g t at,
      still_behind g t (goal.at.members-returns-then-not-stands g t c).After-value_here,
      (named g t at).up,
      λ k n. out k n ∙ ap (λ f. checked c.args.s.now (Noted g t at) (fault f)) (sym c.fault.ensures),
    )

pub members-members-preserved : goal.members-members-preserved
members-members-preserved g t c =
    let at = (goal.at.members-members-preserved g t c).After-note in
    let near = (goal.at.members-members-preserved g t c).After-skip-close in
    let s = c.args.s.now in
    let v = c.in_ok-member.ensures.reads.2.0 in
    let here = c.stands-in-members-2.ensures.taken c.if-not-stands.false in
    let a = c.skip-i-in-members.result in
    let step = further g t near in
    let far : c.members.i + 5 ≤ a = omega (arith, step.0, c.skip-i-in-members.ensures.from) in
    let past : c.in_ok-quote.quote < a = omega (arith, step.1, c.skip-i-in-members.ensures.from) in
    record {
      names = Noted g t at;
      behind = still_behind g t (goal.at.members-members-preserved g t c).After-value_here;
      so_far = next_name g.N.OpenNames.distinct c.args.depth s c.args.open c.members.i c.in_ok-quote.quote (Noted g t at) _ (named g t at) v a
          (comma g.N.OpenNames.distinct c.args.depth s c.args.open c.members.i c.in_ok-quote.quote (Noted g t at) (named g t at) v c.skip-close.result (behind g t near) a here.0 here.1 c.skip-i-in-members.ensures.is)
          (omega (arith, c.members.invariant.so_far.past)) (c.skip-i-in-members.ensures.within (omega (arith, here.0))) c.skip-i-in-members.ensures.stops (λ e. omega (arith, c.members.invariant.so_far.room e, ap length c.value_here.ensures.same, one_more g t at)) (omega arith) past;
    }

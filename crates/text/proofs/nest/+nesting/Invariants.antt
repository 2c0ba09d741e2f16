use Rattle.std.proofs.Common.{◌≡◌, ◌+◌, ◌-◌, ◌*◌, length}
use Rattle.text.proofs.Items.{ItemsSoFar}
use Rattle.text.proofs.Members.{Gathering}
use Rattle.text.proofs.nest.+nesting.Given as goal

abbrev pub decreases-members : goal.decreases-members
decreases-members g l = 3 * l.depth

abbrev pub decreases-array : goal.decreases-array
decreases-array g l = 3 * l.depth + 1

abbrev pub decreases-object : goal.decreases-object
decreases-object g l = 3 * l.depth + 1

abbrev pub decreases-value_here : goal.decreases-value_here
decreases-value_here g l = 3 * l.depth + 2

abbrev pub invariant-array-items : goal.invariant-array-items
invariant-array-items g l = record {
  same : g.N.OpenNames.kept l.names ≡ g.N.OpenNames.kept l.fn.names;
  so_far : ItemsSoFar g.N.OpenNames.distinct l.depth l.s l.open l.i;
}

abbrev pub decreases-array-items : goal.decreases-array-items
decreases-array-items g l = length l.s - l.i

abbrev pub invariant-members-members : goal.invariant-members-members
invariant-members-members g l =
    Gathering g.N.OpenNames.distinct l.depth l.s l.open l.i g.N.OpenNames.capacity (g.N.OpenNames.kept l.fn.names) (g.N.OpenNames.kept l.names)

abbrev pub decreases-members-members : goal.decreases-members-members
decreases-members-members g l = length l.s - l.i

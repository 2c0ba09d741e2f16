-- A part of the buffer takes the bytes.
use Rattle.std.proofs.Common.{refl}
use Rattle.packing.proofs.Over.{put_over}
use Rattle.packing.proofs.writing.put.Goals as goal

pub returns : goal.returns
returns c = record { wrote = put_over c.args.out.now c.args.place c.args.bytes.now _ c.copy_from_slice.ensures.after; end = refl }

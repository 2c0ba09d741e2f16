use Rattle.std.proofs.Common.{Err, ap, ◌∙◌, arith}
use Rattle.syntax.proofs.Stands.{accepts, one_value, told, rows}
use Rattle.text.proofs.Wholes.{out_long}
use Rattle.text.proofs.reader.read.Goals as goal

pub returns-in-0-to-4096 : goal.returns-in-0-to-4096
returns-in-0-to-4096 c = record { is = c.read_by.ensures; accepts = accepts; one = one_value; tells = told; rows = rows }

pub returns-in-4097-to-65536 : goal.returns-in-4097-to-65536
returns-in-4097-to-65536 c = record { is = c.read_by-in-4097-to-65536.ensures; accepts = accepts; one = one_value; tells = told; rows = rows }

pub returns-in-65537-to-1048576 : goal.returns-in-65537-to-1048576
returns-in-65537-to-1048576 c = record { is = c.read_by-in-65537-to-1048576.ensures; accepts = accepts; one = one_value; tells = told; rows = rows }

pub returns-in_default : goal.returns-in_default
returns-in_default c = record { is = ap Err c.fault.ensures ∙ out_long c.args.text.now (omega arith); accepts = accepts; one = one_value; tells = told; rows = rows }

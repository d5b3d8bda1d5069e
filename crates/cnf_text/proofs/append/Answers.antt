-- `cnf_text::append` meets its contract: the part fits. Assumes nothing.
use Rattle.writer.proofs.PutLaws.{put_part}
use Rattle.cnf_text.proofs.append.Goals as goal

pub returns : goal.returns
returns c = put_part c.args.text.now c.args.at c.args.bytes.now c.requires c.append.ensures.value c.append.ensures.out_after

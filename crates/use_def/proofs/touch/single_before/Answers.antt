use Rattle.use_def.specs.laws.Touched.{before}
use Rattle.use_def.specs.laws.SingleSets.{single_stays}
use Rattle.use_def.proofs.touch.single_before.Goals as goal

pub put_single_reads-requires : goal.put_single_reads-requires
put_single_reads-requires c = rw c.take_single_write.auto.row c.requires

pub returns : goal.returns
returns c =
    let write = c.take_single_write.ensures in
    let read = c.put_single_reads.ensures in
    (λ l T m. before T _ _ _ _ (write.0 T m) (read.0 l T m), λ d e. single_stays _ _ _ _ e write.1 (read.1 d))

use Rattle.listing.proofs.Laws.{listed_all, on_ok}
use Rattle.listing.proofs.list_all.Goals as goal

pub returns : goal.returns
returns g c =
    let read = c.in_ok-n.ensures in
    on_ok c.write_all.result (listed_all _ _ _ _ c.in_ok-n.n c.read_full.new.buffer _ read.bound.0 c.read_full.auto.buffer read.bytes read.end c.list-end.ensures.text) c.write_all.ensures.bytes

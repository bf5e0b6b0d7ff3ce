use Rattle.sttr_preimage.proofs.CalledNumbers.{called_among}
use Rattle.sttr_preimage.proofs.called.number_called.Goals as goal

pub returns : goal.returns
returns c =
    let (z, at, same) = c.in_ok-number.ensures.stored in
    called_among c.args.called.now.keys c.insert_full.new.self.keys c.args.one z c.in_ok-number.number c.in_ok-number.ensures.keys at same

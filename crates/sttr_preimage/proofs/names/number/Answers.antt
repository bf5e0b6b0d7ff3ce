use Rattle.sttr_preimage.proofs.Numbered.{number_among}
use Rattle.sttr_preimage.proofs.names.number.Goals as goal

pub returns : goal.returns
returns c =
    let (z, at, same) = c.in_ok-number.ensures.stored in
    number_among c.args.names.now.keys c.insert_full.new.self.keys c.args.name z c.in_ok-number.number c.in_ok-number.ensures.keys at same

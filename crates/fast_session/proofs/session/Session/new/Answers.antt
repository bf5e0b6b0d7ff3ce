use Rattle.std.proofs.Common.{arith, refl}
use Rattle.fast_build.specs.Items.{items_of}
use Rattle.fast_session.proofs.Starts.{nothing_kept}
use Rattle.fast_session.proofs.session.Session.new.Goals as goal

pub returns-clause-at : goal.returns-clause-at
returns-clause-at c =
    let items = items_of c.args.checked in
    record {
      over = record { shallow = c.requires.shallow };
      running = refl;
      count = refl;
      low = omega arith;
      kept = nothing_kept items _ c.in_ok-built.ensures c.new-trees.ensures;
      told = c.new-trees.ensures;
    }

use Rattle.std.proofs.Common.{◌+◌, ◌-◌, get_or, ◌++◌, ◌∷◌, [], map, drop, length, ap, sym, ◌∙◌}
use Rattle.std.proofs.lemmas.List.{map-append}
use Rattle.model_chain.specs.Chains.{take_put}
use Rattle.cooper_solve.specs.Told.{put_of, puts_of}
use Rattle.lin_solve.specs.Shown.{plain_choice}
use Rattle.lin_solve.proofs.Shows.{went_on, puts_step}
use Rattle.lin_solve.proofs.chain.push_puts.Goals as goal

pub loop-i-preserved : goal.loop-i-preserved
loop-i-preserved c =
    let push = (c.in_ok-push.ensures {u = tt}).items in
    let puts = c.args.puts.now in
    let lt = c.loop-i-test.true in
    went_on (map plain_choice c.args.out.now.items ++ map take_put (puts_of puts)) (map plain_choice c.loop-i.out.items) (take_put (put_of (get_or puts (length puts - 1 - c.loop-i.i) _)) ∷ []) (map take_put (drop (c.loop-i.i + 1) (puts_of puts))) (map plain_choice c.push.new.self.items)
    (sym (ap (λ l. map plain_choice c.loop-i.out.items ++ l) (puts_step puts c.loop-i.i _ lt)) ∙ c.loop-i.invariant)
    (ap (map plain_choice) push ∙ map-append plain_choice c.loop-i.out.items _)

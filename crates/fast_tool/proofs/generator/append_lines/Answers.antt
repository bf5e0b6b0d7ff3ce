use Rattle.std.proofs.Common.{◌++◌, ◌∙◌, ap, add-one, append_assoc}
use Rattle.std.specs.Prelude.{decimal}
use Rattle.fast_tool.specs.Filled.{filled}
use Rattle.fast_tool.proofs.generator.append_lines.Goals as goal

pub returns : goal.returns
returns c =
    let own = c.as_bytes-2.ensures.value ∙ c.in_ok-own.ensures.ok in
    let next = c.as_bytes-3.ensures.value ∙ (c.in_ok-next.ensures.ok ∙ ap decimal (add-one c.args.number)) in
    c.in_ok-append_filled.ensures ∙ ((λ i. c.args.out.now.items ++ filled (own i) (next i) (c.as_bytes.ensures.value i)) ∙ simp append_assoc)

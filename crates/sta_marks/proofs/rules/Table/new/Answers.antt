use Rattle.std.proofs.Common.{◌≡◌, ◌≤◌, [], map, get_or, length, inl, inr, sym, ap, ◌∙◌, arith}
use Rattle.std.proofs.lemmas.Bool.{cases_lt}
use Rattle.std.proofs.lemmas.List.{length-map, get_or_past}
use Rattle.sta_marks.specs.Rules.{owned_from, plain_owned}
use Rattle.sta_marks.proofs.Grouped.{none_from}
use Rattle.sta_marks.proofs.rules.Table.new.Goals as goal

pub returns-clause-grouped : goal.returns-clause-grouped
returns-clause-grouped g c = λ k.
    elim (cases_lt k c.constructors.constructor) [
      | inl low ↦ c.constructors.invariant.each k low ∙ ap (owned_from k 0) c.rules-rules.ensures.rules
      | inr past ↦
          let lists = map (λ v. v.items) c.constructors.lists.items in
          let many = length-map c.constructors.lists.items (λ v. v.items) in
          let out : length c.args.sta.now.ranks ≤ k = omega (arith, past, c.constructors-test.false, ap length c.ranks-constructor-end.ensures) in
          ap (map plain_owned) (get_or_past lists k [] (omega (arith, many, past, c.constructors.invariant.many)))
          ∙ sym (none_from c.args.sta.now.ranks (length c.args.sta.now.rules) k out 0 c.rules-rules.result.now c.rules-rules.ensures.fit) ∙ ap (owned_from k 0) c.rules-rules.ensures.rules
    ]

use Rattle.std.proofs.Common.{◌≡◌, ◌<◌, true, map, length, get_or, subst, sym, All, Contains}
use Rattle.std.specs.List.{list_all}
use Rattle.fast_tree.specs.Signatures.{plain_signature}
use Rattle.fast_syntax.specs.Plain.{plain_rule, plain_lang}
use Rattle.sta_core.specs.Machine.{plain_rule as machine_rule}
use Rattle.model_sta.proofs.Pairs.{pairwise_more}
use Rattle.fast_build.specs.Numbers.{number_in, has_ctor}
use Rattle.fast_build.specs.Reached.{demanded_in}
use Rattle.fast_build.specs.Rules.{AreRulesFor}
use Rattle.fast_build.specs.Stands.{GuardStands}
use Rattle.fast_build.proofs.Elements.{all_here}
use Rattle.fast_build.proofs.automaton.states_for.Goals as goal

pub rules_for-requires-clause-ctors : goal.rules_for-requires-clause-ctors
rules_for-requires-clause-ctors c =
    let at = subst (λ xs. c.lang-item.result ≡ get_or xs c.langs.lang-index c.lang-item.result) c.deref-lang-items.ensures.value c.lang-item.is in
    let below = subst (λ xs. c.langs.lang-index < length xs) c.deref-lang-items.ensures.value c.langs-test.true in
    subst (λ rs. list_all (has_ctor (plain_signature c.args.signature.now)) (map plain_rule rs) ≡ true) (sym c.deref.ensures.value)
    (all_here (λ l. list_all (has_ctor (plain_signature c.args.signature.now)) (plain_lang l.now).rules ≡ true) c.args.reached.now.langs.items c.langs.lang-index c.lang-item.result c.requires.ctors at below)

pub rules_for-requires-clause-guarded : goal.rules_for-requires-clause-guarded
rules_for-requires-clause-guarded c =
    let at = subst (λ xs. c.lang-item.result ≡ get_or xs c.langs.lang-index c.lang-item.result) c.deref-lang-items.ensures.value c.lang-item.is in
    let below = subst (λ xs. c.langs.lang-index < length xs) c.deref-lang-items.ensures.value c.langs-test.true in
    subst (λ rs. All (λ r. GuardStands (plain_signature c.args.signature.now).fields r.guard) (map plain_rule rs)) (sym c.deref.ensures.value)
    (all_here (λ l. All (λ r. GuardStands (plain_signature c.args.signature.now).fields r.guard) (plain_lang l.now).rules) c.args.reached.now.langs.items c.langs.lang-index c.lang-item.result c.requires.guarded at below)

pub rules_for-requires-clause-named : goal.rules_for-requires-clause-named
rules_for-requires-clause-named c =
    let at = subst (λ xs. c.lang-item.result ≡ get_or xs c.langs.lang-index c.lang-item.result) c.deref-lang-items.ensures.value c.lang-item.is in
    let below = subst (λ xs. c.langs.lang-index < length xs) c.deref-lang-items.ensures.value c.langs-test.true in
    subst (λ rs. All (Contains c.args.reached.now.names.keys) (demanded_in (map plain_rule rs))) (sym c.deref.ensures.value)
    (all_here (λ l. All (Contains c.args.reached.now.names.keys) (demanded_in (plain_lang l.now).rules)) c.args.reached.now.langs.items c.langs.lang-index c.lang-item.result c.requires.named at below)

pub langs-preserved : goal.langs-preserved
langs-preserved c =
    let at = subst (λ xs. c.lang-item.result ≡ get_or xs c.langs.lang-index c.lang-item.result) c.deref-lang-items.ensures.value c.lang-item.is in
    let below = subst (λ xs. c.langs.lang-index < length xs) c.deref-lang-items.ensures.value c.langs-test.true in
    pairwise_more (AreRulesFor (plain_signature c.args.signature.now) (number_in c.args.reached.now.names.keys)) (λ those. map machine_rule those.items) (λ l. (plain_lang l.now).rules) c.langs.states.items c.push.new.self.items c.in_ok-rules_for.field-0
    c.args.reached.now.langs.items c.langs.lang-index c.lang-item.result below at c.in_ok-push.ensures.items
    (subst (λ rs. AreRulesFor (plain_signature c.args.signature.now) (number_in c.args.reached.now.names.keys) (map machine_rule c.in_ok-rules_for.field-0.items) (map plain_rule rs)) c.deref.ensures.value c.in_ok-rules_for.ensures) c.langs.invariant

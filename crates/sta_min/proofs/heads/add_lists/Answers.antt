use Rattle.std.proofs.Common.{◌≡◌, ◌∷◌, ◌++◌, [], map, refl, sym, ap, subst, ◌∙◌, arith}
use Rattle.std.proofs.lemmas.List.{map-append}
use Rattle.sta_classes.specs.Grow.{Grown}
use Rattle.sta_classes.proofs.Grown.{grown_first, grown_more, grown_all, grown_push}
use Rattle.sta_min.specs.Demands.{free_in}
use Rattle.sta_min.specs.Heads.{PlainHead, plain_head, head_with}
use Rattle.sta_min.proofs.heads.add_lists.Goals as goal

pub lists-init : goal.lists-init
lists-init c = grown_first (λ v h. head_with c.args.constructor (free_in c.args.free.now) v.items ≡ h) c.args.lists.now (map plain_head c.args.heads.now.items) (map plain_head c.args.heads.now.items) refl

pub lists-preserved : goal.lists-preserved
lists-preserved c =
    let made : PlainHead = head_with c.args.constructor (free_in c.args.free.now) c.list-item.result.items in
    let put : map plain_head c.push.new.self.items ≡ map plain_head c.lists.heads.items ++ made ∷ [] =
    ap (map plain_head) c.in_ok-push.ensures.items ∙ map-append plain_head c.lists.heads.items _ ∙ ap (λ h. map plain_head c.lists.heads.items ++ h ∷ []) (c.in_ok-head_over.ensures ∙ ap (head_with c.args.constructor (free_in c.args.free.now)) c.deref.ensures.value) in
    grown_more (λ v h. head_with c.args.constructor (free_in c.args.free.now) v.items ≡ h) c.args.lists.now (map plain_head c.args.heads.now.items) (map plain_head c.lists.heads.items) (map plain_head c.push.new.self.items) c.lists.list-index c.list-item.result c.lists-test.true c.list-item.is c.lists.invariant
    (subst (λ l. Grown (map plain_head c.lists.heads.items) l (λ h. made ≡ h)) (sym put) (grown_push (map plain_head c.lists.heads.items) made))

pub returns : goal.returns
returns c = grown_all (λ v h. head_with c.args.constructor (free_in c.args.free.now) v.items ≡ h) c.args.lists.now (map plain_head c.args.heads.now.items) (map plain_head c.lists.heads.items) c.lists.list-index (omega (arith, c.lists-test.false)) c.lists.invariant

use Rattle.std.proofs.Common.{◌≡◌, ◌<◌, ◌+◌, length, get_or, map, take, sym, ap, subst, ◌∙◌, arith, Some, refl, length-append, [], ◌∷◌, None, take_all}
use Rattle.std.specs.Cmp.Lexicographic.{nat_list_eq_equiv}
use Rattle.std.proofs.lemmas.List.Elements.{All-nil}
use Rattle.fast_syntax.specs.Plain.{plain_trans, plain_out_rule}
use Rattle.model_names.specs.Declared.{out_rules_of}
use Rattle.fast_build.specs.Items.{items_of}
use Rattle.fast_build.specs.Transformations.{find_trans}
use Rattle.fast_build.specs.Reached.{IsGrown}
use Rattle.fast_build.specs.Called.{AreCallsClosed, called_in}
use Rattle.fast_build.proofs.Rounds.{first_reached}
use Rattle.fast_build.proofs.Closing.{closed_more, found_more}
use Rattle.fast_build.proofs.Transforming.{outs_are}
use Rattle.fast_build.proofs.CallRounds.{first_known, more_called, more_known, found_one, no_more}
use Rattle.fast_build.proofs.called.reach_calls.Goals as goal

pub reach-init : goal.reach-init
reach-init c =
    let items = items_of c.args.checked.now in
    let none = c.new-transformations.ensures.items in
    let keys = c.add_name.new.names.keys in
    let grown : IsGrown [] keys (c.args.name.now ∷ []) = subst (λ ks. IsGrown ks keys (c.args.name.now ∷ [])) c.new-names.ensures.empty c.in_ok-add_name.ensures in
    record {
      known = λ t found. first_known items c.args.name.now keys t found grown;
      reached = first_reached items c.args.name.now keys grown;
      closed = subst (λ k. AreCallsClosed items keys (take k keys)) (sym (ap length none)) (All-nil _);
      transformations = subst (λ xs. map (find_trans items) (take (length xs) keys) ≡ map (λ x. Some (plain_trans x.now)) xs) (sym none) refl;
      count = let n = ap length none in omega (arith, n);
    }

pub unreachable-requires : goal.unreachable-requires
unreachable-requires c =
    let items = items_of c.args.checked.now in
    let low : length c.reach.transformations.items < length c.reach.names.keys = omega (arith, c.reach-test.true, c.len.ensures, c.reach.transformations.ok.0, c.len-in-reach.ensures.len) in
    let k : c.len-in-reach-2.result ≡ length c.reach.transformations.items = omega (arith, c.len-in-reach-2.ensures, c.reach.transformations.ok.0) in
    let n = c.index-as_slice-len.result in
    let at : n ≡ get_or c.reach.names.keys (length c.reach.transformations.items) n = c.index-as_slice-len.is ∙ (λ i. get_or (c.as_slice.ensures.keys i) (k i) n) in
    let found = found_one items c.args.name.now n c.reach.names.keys c.requires.there c.reach.invariant.known (length c.reach.transformations.items, low, sym at) in
    let no : None ≡ Some found.0 = sym c.in_default.ensures ∙ found.1 in absurd (cc)

pub reach-smaller : goal.reach-smaller
reach-smaller c =
    let items = items_of c.args.checked.now in
    let low : length c.reach.transformations.items < length c.reach.names.keys = omega (arith, c.reach-test.true, c.len.ensures, c.reach.transformations.ok.0, c.len-in-reach.ensures.len) in
    let most = no_more items c.args.name.now nat_list_eq_equiv c.reach.names.keys c.requires.there c.reach.invariant.known c.len-in-reach.ensures.unique in
    let more : length c.push.new.self.items ≡ length c.reach.transformations.items + 1 = ap length c.in_ok-push.ensures.items ∙ length-append _ _ in
    omega (arith, low, most, more)

pub reach-preserved : goal.reach-preserved
reach-preserved c =
    let items = items_of c.args.checked.now in
    let held = c.reach.transformations.items in
    let old = c.reach.names.keys in
    let new = c.add_calls.new.names.keys in
    let low : length held < length old = omega (arith, c.reach-test.true, c.len.ensures, c.reach.transformations.ok.0, c.len-in-reach.ensures.len) in
    let k : c.len-in-reach-2.result ≡ length held = omega (arith, c.len-in-reach-2.ensures, c.reach.transformations.ok.0) in
    let n = c.index-as_slice-len.result in
    let at : n ≡ get_or old (length held) n = c.index-as_slice-len.is ∙ (λ i. get_or (c.as_slice.ensures.keys i) (k i) n) in
    let more : length c.push.new.self.items ≡ length held + 1 = ap length c.in_ok-push.ensures.items ∙ length-append _ _ in
    let grown : IsGrown old new (called_in (out_rules_of items n)) = subst (λ rs. IsGrown old new (called_in rs)) (ap (map plain_out_rule) c.deref.ensures.value ∙ sym (outs_are items n (plain_trans c.in-Some.own.now) c.in-Some.ensures)) c.in_ok-add_calls.ensures in
    record {
      known = λ t found. more_known items c.args.checked.now.well_formed old new n t.from.text t.into.text (c.reach.invariant.known t found) (length held, low, sym at) grown;
      reached = more_called items c.args.name.now old new n c.reach.invariant.reached (length held, low, sym at) grown;
      closed = subst (λ j. AreCallsClosed items new (take j new)) (sym more) (closed_more (λ m. called_in (out_rules_of items m)) old new (length held) n low at c.reach.invariant.closed grown);
      transformations = found_more (find_trans items) (λ x. plain_trans x.now) old new _ held c.push.new.self.items n c.in-Some.own low at grown c.in_ok-push.ensures.items c.in-Some.ensures c.reach.invariant.transformations;
      count = let longer = ap length grown.is ∙ length-append old grown.added in omega (arith, low, more, longer);
    }

pub returns : goal.returns
returns c =
    let items = items_of c.args.checked.now in
    let held = c.reach.transformations.items in
    let whole : take (length held) c.reach.names.keys ≡ c.reach.names.keys = take_all (length held) c.reach.names.keys (omega (arith, c.reach-test.false, c.len.ensures, c.reach.transformations.ok.0, c.len-in-reach.ensures.len)) in
    record {
      reached = c.reach.invariant.reached;
      closed = subst (AreCallsClosed items c.reach.names.keys) whole c.reach.invariant.closed;
      once = c.len-in-reach.ensures.unique;
      transformations = subst (λ ns. map (find_trans items) ns ≡ map (λ x. Some (plain_trans x.now)) held) whole c.reach.invariant.transformations;
    }

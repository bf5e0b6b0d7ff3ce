use Rattle.std.proofs.Common.{length, arith, sym, refl, subst, ◌∙◌, ◌≡◌, ◌≤◌, ◌-◌, ◌∷◌, ◌++◌, [], List, ap, map, false-eqb}
use Rattle.std.proofs.lemmas.Bool.{eqb-true}
use Rattle.std.proofs.lemmas.List.{map-append}
use Rattle.std.proofs.ResultArms.{chosen}
use Rattle.fast_lex.specs.declared.Token.{Token}
use Rattle.fast_lex.specs.Tokens.{lexeme, AreSlices}
use Rattle.fast_lex.proofs.RunLemmas.{utf8_behind}
use Rattle.fast_lex.proofs.TokenLemmas.{IsLexing, front_shorter, lexing_stops, lexing_ends, lexing_room, not_ended, piece_shorter, token_found, gap_passed, slice_of, slices_more}
use Rattle.fast_lex.proofs.tokens.Goals as goal
use Rattle.fast_lex.proofs.tokens.Goals.{in-Some-word+else-is_err, in_default-word}

pub returns-in_default : goal.returns-in_default
returns-in_default c = let i = c.loop-rest.invariant in lexing_stops _ _ _ _ i.1 (not_ended _ i.0 (λ e. false-eqb _ 0 c.loop-rest-test.ensures e)) c.in_default.ensures

pub place_behind-behind-requires-clause-line : goal.place_behind-behind-requires-clause-line
place_behind-behind-requires-clause-line c =
    let room = lexing_room _ _ _ _ c.loop-rest.invariant.1 in let e : length c.front-passed.result.now ≤ length c.loop-rest.rest.now = front_shorter _ _ _ c.front-passed.ensures.bytes in omega (arith, c.requires)

pub place_behind-behind-requires-clause-column : goal.place_behind-behind-requires-clause-column
place_behind-behind-requires-clause-column c =
    let room = lexing_room _ _ _ _ c.loop-rest.invariant.1 in let e : length c.front-passed.result.now ≤ length c.loop-rest.rest.now = front_shorter _ _ _ c.front-passed.ensures.bytes in omega (arith, c.requires)

pub loop-rest-smaller : goal.loop-rest-smaller
loop-rest-smaller c = piece_shorter _ _ _ c.in-Some.ensures

pub loop-rest-preserved : goal.loop-rest-preserved
loop-rest-preserved c =
    let next = c.in-Some.ensures in let i = c.loop-rest.invariant in let passed = c.front-passed.ensures.chars next.front next.behind in
    let both : IsLexing c.args.text.now c.in-Some.next.rest.now c.place_behind-behind.result (map lexeme c.match-next.found.items) × AreSlices c.args.text.now c.match-next.found.items =
    elim c.match-next.branch [
      | in-Some-word+else-is_err w ↦ (
          let token : Token = record { word = w.in-Some-word.word; text = c.front-passed.result; start = length c.args.text.now - length c.loop-rest.rest.now; place = c.loop-rest.place } in
          let items : c.match-next.found.items ≡ c.loop-rest.found.items ++ token ∷ [] = ap (λ v. v.items) w.found-is ∙ chosen _ _ _ _ w.push.ensures.items w.if-is_err.ensures.negation in
          let mapped = ap (λ l. map lexeme l) items ∙ map-append lexeme c.loop-rest.found.items (token ∷ []) in (
            token_found _ _ _ _ _ _ _ _ w.in-Some-word.word _ _ i.1 next w.in-Some-word.is passed c.place_behind-behind.ensures refl mapped,
            subst (AreSlices c.args.text.now) (sym items) (slices_more _ _ token i.2 (slice_of _ _ _ _ _ _ token i.1 c.front-passed.ensures.bytes refl refl)),
          )
          )
      | in_default-word w ↦ (
          let items : c.match-next.found.items ≡ c.loop-rest.found.items = ap (λ v. v.items) w.found-is in (
            subst (λ (l : List Token). IsLexing c.args.text.now c.in-Some.next.rest.now c.place_behind-behind.result (map lexeme l)) (sym items) (gap_passed _ _ _ _ _ _ _ _ i.1 next w.in_default-word.is passed c.place_behind-behind.ensures),
            subst (AreSlices c.args.text.now) (sym items) i.2,
          )
          )
    ] in (utf8_behind next.front _ _ i.0 next.behind.bytes, both.0, both.1)

pub returns : goal.returns
returns c = let i = c.loop-rest.invariant in (lexing_ends _ _ _ _ i.1 (eqb-true _ 0 (sym c.loop-rest-test.ensures)), i.2)

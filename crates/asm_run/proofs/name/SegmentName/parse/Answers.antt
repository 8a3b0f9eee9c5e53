use Rattle.std.proofs.Common.{refl}
use Rattle.asm_run.specs.Name.{from_previous, from_events, from_moves, from_first}
use Rattle.asm_run.proofs.Cuts.{same_eight, same_counted, same_cut, whole, eight_few}
use Rattle.asm_run.proofs.name.SegmentName.parse.Goals as goal

pub returns-in_err-number-clause-none : goal.returns-in_err-number-clause-none
returns-in_err-number-clause-none c = λ e name f m v is. c.in_err-number.ensures.none refl name.number is.front
    (from_first name) is.number is.all

pub returns-in_err-first-clause-none : goal.returns-in_err-first-clause-none
returns-in_err-first-clause-none c = λ e name f m v is.
    let one = c.in_ok-number.ensures.some in
    let at1 = same_eight c.args.text.now one.0 c.in_ok-number.rest.now is.front
    (from_first name) c.in_ok-number.number name.number one.1 one.2 is.number is.all in
    c.in_err-first.ensures.none refl name.first (from_moves name) f at1

pub returns-in_err-moves-clause-none : goal.returns-in_err-moves-clause-none
returns-in_err-moves-clause-none c = λ e name f m v is.
    let one = c.in_ok-number.ensures.some in
    let at1 = same_eight c.args.text.now one.0 c.in_ok-number.rest.now is.front
    (from_first name) c.in_ok-number.number name.number one.1 one.2 is.number is.all in
    let at2 = same_counted c.in_ok-number.rest.now c.in_ok-first.rest.now
    (from_moves name) c.in_ok-first.first name.first c.in_ok-first.ensures.few f c.in_ok-first.ensures.some at1 in
    c.in_err-moves.ensures.none refl name.moves (from_events name) m at2

pub returns-in_err-events-clause-none : goal.returns-in_err-events-clause-none
returns-in_err-events-clause-none c = λ e name f m v is.
    let one = c.in_ok-number.ensures.some in
    let at1 = same_eight c.args.text.now one.0 c.in_ok-number.rest.now is.front
    (from_first name) c.in_ok-number.number name.number one.1 one.2 is.number is.all in
    let at2 = same_counted c.in_ok-number.rest.now c.in_ok-first.rest.now
    (from_moves name) c.in_ok-first.first name.first c.in_ok-first.ensures.few f c.in_ok-first.ensures.some at1 in
    let at3 = same_counted c.in_ok-first.rest.now c.in_ok-moves.rest.now
    (from_events name) c.in_ok-moves.moves name.moves c.in_ok-moves.ensures.few m c.in_ok-moves.ensures.some at2
    in
    c.in_err-events.ensures.none refl name.events (from_previous name) v at3

pub returns-in_err-previous-clause-none : goal.returns-in_err-previous-clause-none
returns-in_err-previous-clause-none c = λ e name f m v is.
    let one = c.in_ok-number.ensures.some in
    let at1 = same_eight c.args.text.now one.0 c.in_ok-number.rest.now is.front
    (from_first name) c.in_ok-number.number name.number one.1 one.2 is.number is.all in
    let at2 = same_counted c.in_ok-number.rest.now c.in_ok-first.rest.now
    (from_moves name) c.in_ok-first.first name.first c.in_ok-first.ensures.few f c.in_ok-first.ensures.some at1 in
    let at3 = same_counted c.in_ok-first.rest.now c.in_ok-moves.rest.now
    (from_events name) c.in_ok-moves.moves name.moves c.in_ok-moves.ensures.few m c.in_ok-moves.ensures.some at2
    in
    let at4 = same_counted c.in_ok-moves.rest.now c.in_ok-events.rest.now
    (from_previous name) c.in_ok-events.events name.events c.in_ok-events.ensures.few v
    c.in_ok-events.ensures.some at3 in
    c.in_err-previous.ensures.none refl name.previous _ is.previous at4

pub returns-in_err-digest-clause-none : goal.returns-in_err-digest-clause-none
returns-in_err-digest-clause-none c = λ e name f m v is.
    let one = c.in_ok-number.ensures.some in
    let at1 = same_eight c.args.text.now one.0 c.in_ok-number.rest.now is.front
    (from_first name) c.in_ok-number.number name.number one.1 one.2 is.number is.all in
    let at2 = same_counted c.in_ok-number.rest.now c.in_ok-first.rest.now
    (from_moves name) c.in_ok-first.first name.first c.in_ok-first.ensures.few f c.in_ok-first.ensures.some at1 in
    let at3 = same_counted c.in_ok-first.rest.now c.in_ok-moves.rest.now
    (from_events name) c.in_ok-moves.moves name.moves c.in_ok-moves.ensures.few m c.in_ok-moves.ensures.some at2
    in
    let at4 = same_counted c.in_ok-moves.rest.now c.in_ok-events.rest.now
    (from_previous name) c.in_ok-events.events name.events c.in_ok-events.ensures.few v
    c.in_ok-events.ensures.some at3 in
    let at5 = same_cut c.in_ok-events.rest.now c.in_ok-previous.previous c.in_ok-previous.rest.now name.previous _
    c.in_ok-previous.ensures.some.0 c.in_ok-previous.ensures.some.1 is.previous at4 in
    c.in_err-digest.ensures.none refl name.digest is.digest at5.1

pub returns-clause-some : goal.returns-clause-some
returns-clause-some c =
    let one = c.in_ok-number.ensures.some in
    whole c.args.text.now one.0 c.in_ok-number.rest.now c.in_ok-first.rest.now c.in_ok-moves.rest.now
    c.in_ok-events.rest.now c.in_ok-previous.rest.now
    (record {
      number = c.in_ok-number.number;
      first = c.in_ok-first.first;
      moves = c.in_ok-moves.moves;
      events = c.in_ok-events.events;
      previous = c.in_ok-previous.previous;
      digest = c.in_ok-digest.digest;
    })
    one.1 one.2 c.in_ok-first.ensures.some c.in_ok-moves.ensures.some c.in_ok-events.ensures.some
    c.in_ok-previous.ensures.some.0 c.in_ok-previous.ensures.some.1
    c.in_ok-digest.ensures.some.0 c.in_ok-digest.ensures.some.1

pub returns-clause-few : goal.returns-clause-few
returns-clause-few c = let one = c.in_ok-number.ensures.some in eight_few one.0 c.in_ok-number.number one.1

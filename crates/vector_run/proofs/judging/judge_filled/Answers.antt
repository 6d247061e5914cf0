-- `vector_run::judging::judge_filled` meets its contract: a case of its kind over filled areas. Assumes nothing.
use Rattle.vector_run.proofs.Found.{filled, kind_run, kind_check, kind_hex, check_found, hex_found}
use Rattle.vector_run.proofs.judging.judge_filled.Goals as goal

pub returns-in-Run : goal.returns-in-Run
returns-in-Run c =
    kind_run _ (filled _ 14 _ c.field.ensures c.fill.ensures) (filled _ 16 _ c.field-2.ensures c.fill-2.ensures) c.in-Run.is
    c.judge_run.ensures

pub returns-in-Check : goal.returns-in-Check
returns-in-Check c =
    let (code, area, room, number, after, answer, gives, code_is, area_is, room_is, found) = c.judge_answer.ensures in
    kind_check _ (filled _ 14 _ c.field.ensures c.fill.ensures) (filled _ 16 _ c.field-2.ensures c.fill-2.ensures) c.in-Check.is
    (check_found (rw (code_is, area_is, room_is) at gives) found)

pub returns-in-Hex : goal.returns-in-Hex
returns-in-Hex c =
    let (code, area, room, number, after, answer, gives, code_is, area_is, room_is, found) = c.judge_answer-in-Hex.ensures in
    kind_hex _ (filled _ 14 _ c.field.ensures c.fill.ensures) (filled _ 16 _ c.field-2.ensures c.fill-2.ensures) c.in-Hex.is
    (hex_found (rw (code_is, area_is, room_is) at gives) found)

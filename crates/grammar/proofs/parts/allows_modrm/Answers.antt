-- `grammar::parts::allows_modrm` meets its contract, word by word.
-- Assumes nothing.
use Rattle.grammar.proofs.parts.allows_modrm.Goals as goal

pub returns-in-Memory : goal.returns-in-Memory
returns-in-Memory c = rw c.in-Memory.is

pub returns-in-AllBut6 : goal.returns-in-AllBut6
returns-in-AllBut6 c = rw c.in-AllBut6.is

pub returns-in-Only0 : goal.returns-in-Only0
returns-in-Only0 c = rw c.in-Only0.is

pub returns-in-AllBut1 : goal.returns-in-AllBut1
returns-in-AllBut1 c = rw c.in-AllBut1.is

pub returns-in-Only01 : goal.returns-in-Only01
returns-in-Only01 c = rw c.in-Only01.is

pub returns-in-Only01246 : goal.returns-in-Only01246
returns-in-Only01246 c = rw c.in-Only01246.is c.is_01246.ensures

pub returns-in-Only4567 : goal.returns-in-Only4567
returns-in-Only4567 c = rw c.in-Only4567.is

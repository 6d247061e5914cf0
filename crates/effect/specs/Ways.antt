-- Which operations lead to an address that neither the next instruction nor a displacement gives. Assumes nothing.
use Rattle.std.specs.Prelude.{Bool, true, false}
use Rattle.sense.specs.declared.Stack.{Stack}
use Rattle.sense.specs.declared.Branch.{Branch}
use Rattle.sense.specs.declared.Operation.{Operation}

-- each return and each call through a register or memory
unfoldable pub indirect_stack : Stack → Bool
indirect_stack Stack.Push = false
indirect_stack Stack.Pop = false
indirect_stack Stack.Leave = false
indirect_stack Stack.Call = false
indirect_stack Stack.CallTo = true
indirect_stack Stack.Return = true

-- each jump through a register or memory
unfoldable pub indirect_branch : Branch → Bool
indirect_branch Branch.Jump = false
indirect_branch Branch.JumpTo = true
indirect_branch (Branch.JumpIf n) = false
indirect_branch Branch.Loopne = false
indirect_branch Branch.Loope = false
indirect_branch Branch.Loop = false
indirect_branch Branch.Jecxz = false

-- each return and each jump or call through a register or memory
unfoldable pub indirect : Operation → Bool
indirect (Operation.Arithmetic op) = false
indirect (Operation.Move op) = false
indirect (Operation.Flagging op) = false
indirect (Operation.Stack op) = indirect_stack op
indirect (Operation.Branch op) = indirect_branch op
indirect (Operation.Strings op) = false
indirect Operation.MoveSingle = false
indirect (Operation.ComputeSingle op) = false
indirect Operation.CompareSingle = false

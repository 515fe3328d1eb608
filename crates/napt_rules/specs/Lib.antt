-- The rules of a run, in reading order. `run_result rules inputs`, at the end of `Sequential`, is what a run over
-- inputs gives: the outcome of each input, the bindings that are live at the end, and the number of legs at each
-- external address. A run on one thread and a run over workers are both proved to give exactly this.
--
-- LEGEND
--
-- `ℕ` has the numbers from 0 on, without an upper bound. Times are in nanoseconds, an address is its 32 bits as a
-- number, and a packet is the list of its bytes. `rules` is a configuration as contracts see it (`napt_config`,
-- `Rules`), `address` an external address of its pool, `list` the bindings of all of them, and `now` a packet's time.
--
--   word : A → B → C    a function that takes an A and a B and returns a C; its equations follow. `abbrev` and
--                       `unfoldable` only say whether a prover may replace the word by its definition by itself
--   f x y               the function f applied to x and y; `λ x. t` is the function that returns t for x
--   x ≡ y               x and y are equal; `==`, `beq` (of two tests), `nat_lt`, `nat_le`, `&&`, `||` and `not` return
--                       `true` or `false`
--   a × b               both a and b; `P → Q` also says that P implies Q, and `(x : A) → P` that P holds of each x
--   cond test a b       a if the test is true, else b
--   record r { f = x }  r with x in its field f; `record { .. }` is a record with these fields
--   [], x ∷ xs, xs ++ ys    the empty list, x before xs, and xs followed by ys
--   map, filter, find   each element changed, the elements that pass a test, and the first one that passes
--   fold, scan          a function applied to one element after another: the last state, and the output of each step
--   Some x, None        x, or no value; `Ok x`, `Err cause` are x, or why there is none
--
-- In contracts `x.now` is the value of x, and `x.old` and `x.new` are its values before and after the call.
-- `IfOk result P` says that P holds of the value of an `Ok`, `IfErr result P` that it holds of the error of an `Err`.

-- ONE BINDING, and how packets change it

pub mod Lists
pub mod Bindings
pub mod Marks
pub mod Life
pub mod Filtering
pub mod FlowUpdates
-- ITS NUMBER

pub mod Candidates
pub mod Classes
pub mod Choice
pub mod Quota
-- THE LIST OF BINDINGS: how it begins, and how a packet changes it

pub mod Opening
pub mod Steps
-- ONE LEG: a packet, outgoing or incoming

pub mod Sides
pub mod Legs
-- A RUN

pub mod Inputs
pub mod Admission
pub mod Rows
pub mod Sequential
pub mod Misfits
-- LAWS of steps, of legs and of runs

pub mod Endpoints
pub mod StepLaws
pub mod LocalTime
pub mod LegEnds
pub mod ResumedRuns
pub mod RunLaws
pub mod LocalRuns
pub mod Prelude

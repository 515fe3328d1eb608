-- LISTS

pub mod Lists
pub mod UniqueSearches
-- ONE BINDING, AND ITS NUMBER

pub mod Purges
pub mod SeenElements
pub mod FreshBindings
pub mod Classes
pub mod Blocks
pub mod Endpoints
-- STEPS: the list of bindings at the start, and what a packet does to it

pub mod HeldNumbers
pub mod StepCases
pub mod Permutations
pub mod AlikeLists
pub mod StepRows
pub mod Quotas
pub mod StepsLocal
pub mod StepsLive
pub mod StepsSound
pub mod StepsQuota
pub mod StepsAlike
pub mod HoldTimes
pub mod RowNumbers
pub mod OpeningList
pub mod Orders
-- LEGS

pub mod Pools
pub mod LegCases
pub mod LegLaws
pub mod OnwardForeseen
pub mod OnwardLegs
pub mod LegsLocal
pub mod BindingUseLaws
-- RUNS

pub mod StepProperties
pub mod RunInduction
pub mod RunsBeside
pub mod Routes
pub mod RunsLocal
pub mod LegsAlone
pub mod RunsSound
pub mod RunsQuota
pub mod RunsBlocks
pub mod TakenStates
pub mod OwnBindings
pub mod OwnStates
pub mod Rows
pub mod OneMoreInput
pub mod ContinuedRuns
pub mod RunsAlike
pub mod SavedStates
pub mod LegInduction
pub mod DispatchLaws
pub mod OneInput
pub mod SecondLegsByNumber
pub mod Holders

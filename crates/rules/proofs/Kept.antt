-- The proof of demand 3 (specs/Promises.antt), from the cells up to lists of calls.

-- numbers, bytes and the block table
pub mod Counting
pub mod Bytes
pub mod Table
pub mod Slots
-- where walks end, and what a change of the blocks leaves of them
pub mod Ends
pub mod Freed
pub mod Steady
-- the head table: its seats, their caches, and the frame in which both tables stand
pub mod Seats
pub mod Cached
pub mod Frame
pub mod Leaves
-- an eviction, and a head that gets a seat
pub mod EvictHead
pub mod Place
-- an admission: the block, its head, the late links, the refresh
pub mod Settle
pub mod Insert
pub mod Arrive
pub mod Link
pub mod LinkLoop
pub mod Refresh
pub mod Admit
-- a promotion
pub mod Recomputed
pub mod Promote
-- a removal
pub mod Mark
pub mod Sweep
pub mod Drop
pub mod Left
pub mod HeadsLeft
pub mod Remove
-- fresh tables, and a restart
pub mod Empty
pub mod Rebuild
-- from the frame to the promises of a state, and back
pub mod Walked
pub mod Shaped
pub mod Anchors
pub mod Border
-- each call, the searches for a victim, and lists of calls
pub mod Went
pub mod Steps
pub mod PromoteStep
pub mod AdmitStep
pub mod Victims
pub mod Inserts
pub mod Lists
pub mod Mended

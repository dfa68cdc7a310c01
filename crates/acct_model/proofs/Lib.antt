-- what a text of digits spells
pub mod Numbers
-- the least blocks that cover octets
pub mod Blocks
-- the first fault of a list from a place on, and what passes if there is none
pub mod Faults
-- what plans without a fault keep, and that each class then has a plan
pub mod PlanFaults
-- what the refusals of a packet's attributes say
pub mod Refusals
-- shown octets read back
pub mod Escapes
-- what coded octets are, and that they read back
pub mod CodedOctets
-- where octets are cut
pub mod Cuts
-- the laws of stamps
pub mod StampLaws
-- parts that are joined one by one
pub mod Joins
-- what equal lengths and a walk say of equal octets
pub mod Walked
-- the tests `bytes_eq`, `same_session` and `same_voucher` decide equality
pub mod Same
-- sums over the distinct elements of a list
pub mod Distinct
-- what one more entry does to a balance
pub mod Balances
-- the accounts that own a session or a voucher
pub mod Known
-- which elements mapped, filtered and tested lists have
pub mod Lists
-- which sessions, reports, vouchers and accounts a history has
pub mod Members
-- the worked rows of prices and shown octets
pub mod WorkedRows
-- the first values of a packet's attributes, as they are found
pub mod FirstValues
-- what reports, restarts and repeated vouchers do to balances
pub mod Money
-- sums over the distinct elements of two lists that have the same elements
pub mod Sums
-- reports and top-ups that say the same of every account
pub mod Alike
-- the first top-up by a number, and what agrees with all top-ups
pub mod TopUps
-- the laws of plans
pub mod PlanLaws
-- which reports and top-ups a list's claims come from
pub mod Claimed
-- entries that say nothing but their claims
pub mod Bare
-- when two lists of entries have the same balances
pub mod Agree
-- what is accepted again moves no balance
pub mod Repeats
-- the law `BalancesAgree`
pub mod Agreement
-- a session keeps its plan
pub mod Kept
-- what sessions cost does not depend on the order of the plans
pub mod SamePlans
-- the laws of plans that are added later
pub mod KeptLaws
-- a history without the reports of one session
pub mod Without
-- to carry sessions forward moves no balance
pub mod Forward
-- a history continues alike if sessions were carried forward
pub mod GoOn
-- a history in which sessions are carried forward keeps the balances of what was sent
pub mod Courses

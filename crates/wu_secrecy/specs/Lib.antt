-- What a user is told over whole histories.
-- turns, and which are hers
pub mod Turns
pub mod Answers
-- sessions, histories, and what `run` answered
pub mod Histories
pub mod Lives
pub mod Restarted
-- what can't change her view
pub mod Unseen
pub mod UnseenItems
-- two histories that she can't tell apart
pub mod Example

-- Replies from the rows of a witness, in the order of reading: a position of the game and the rows that still fit it, and the winner's next value
-- (Position); what holds of them, move by move and over a whole game (GameRight); games worked by hand (Worked).
pub mod Position
pub mod GameRight
pub mod Worked

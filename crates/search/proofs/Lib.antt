-- Laws that belong to no one function.
pub mod ValueLaws
pub mod EndLaws
pub mod CallLaws
pub mod BoardLaws
pub mod OnBoardLaws
pub mod WholeLaws
pub mod RoomLaws

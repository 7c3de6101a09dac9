pub mod FillLaws
pub mod CountLaws
pub mod PutLaws
pub mod PieceLaws
pub mod RoomLaws

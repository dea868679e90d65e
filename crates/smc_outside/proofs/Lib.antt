mod PieceLaws
mod ShelfLaws
